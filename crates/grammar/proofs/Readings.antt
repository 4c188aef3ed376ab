-- Reading a format ends where its bytes say, and the pieces that it lists are the parts that stand there. Assumes nothing but that the kinds are known.
use Rattle.std.specs.Prelude.{Err, Ok}
use mathlib.Core.Path.{◌≡◌, refl, sym, ap, subst, ◌∙◌}
use mathlib.Core.Bool.{true}
use mathlib.Core.List.{List, [], ◌∷◌, ◌++◌, append_assoc, append-nil}
use Prim.Native.Nat.{ℕ, zero, suc, ◌+◌, ◌-◌, ◌≤◌, ◌<◌}
use native.Mathlib.Omega.{arith}
use lib.ListN.{length, drop, length-append, length-drop}
use Rattle.refusals.proofs.Parsed.{same_stop}
use Rattle.refusals.specs.Limits.{most_pieces}
use Rattle.writing.specs.Text.{ascii, has}
use Rattle.parsing.specs.Pieces.{start, piece_at}
use Rattle.refusals.specs.declared.Refusal.TheVariants.{ManyPieces}
use Rattle.parsing.specs.Listed.{Placed, Ended, placed_from, end_from, placed, ended}
use Rattle.parsing.specs.declared.Cursor.{Cursor}
use Rattle.parsing.proofs.Iteration.{placed_found, placed_past, end_found, end_refused, end-many, end_past}
use Rattle.grammar.specs.Runs.{begins}
use Rattle.grammar.specs.Parts.{Written, Part, part_bytes, bytes_before, counted_in, last_named}
use Rattle.grammar.specs.Elements.{Begun, Stands, Reads}
use Rattle.grammar.specs.Elements as E
use Rattle.grammar.specs.Faults.{Fault}
use Rattle.grammar.specs.Faults as K
use Rattle.grammar.specs.Pieces.{At, PieceIs, Lists}
use Rattle.grammar.specs.Pieces as Q
use Rattle.grammar.specs.Readings.{Whole, StopsReading, many, fault}
use Rattle.grammar.proofs.Runs.{not_percent}
use Rattle.grammar.proofs.Letters.{never}
use Rattle.grammar.proofs.Steps.{KindsKnown, fault_step}
use Rattle.grammar.proofs.Found.{Finds, stands_bytes, stands_finds}
use Rattle.grammar.proofs.Total.{Verdict, stands, faulty, verdict}
use Rattle.refusals.specs.Numbers.{stop}
use Rattle.refusals.specs.declared.Refusal.{Refusal}

-- a part has bytes
some_bytes : {ks : List ℕ} {before : List Part} {r : List ℕ} {p : Part} {rest : List ℕ} → Stands ks before r p rest → 1 ≤ length (part_bytes p)
some_bytes (E.is_text_part {t} b run) = not_empty t b
  where
    not_empty : (t : List ℕ) → begins not_percent t ≡ true → 1 ≤ length t
    not_empty [] e = absurd (never e)
    not_empty (x ∷ t) e = omega arith
some_bytes E.is_percent = omega arith
some_bytes E.is_newline = omega arith
some_bytes (E.is_element x f) = omega arith

-- and so has a fault, which begins with `%`
begun-percent : {before : List Part} {r : List ℕ} {w : Written} {rest : List ℕ} → Begun before r w rest → begins (has (ascii "%")) r ≡ true
unfolding has
begun-percent b = ap (begins (has (ascii "%"))) b.bytes

fault-percent : {ks : List ℕ} {before : List Part} {r : List ℕ} {refusal : Refusal} → Fault ks before r refusal → begins (has (ascii "%")) r ≡ true
unfolding has
fault-percent (K.no_element rest e z) = ap (begins (has (ascii "%"))) e
fault-percent (K.no_index rest e) = ap (begins (has (ascii "%"))) e
fault-percent (K.large_index ds rest e i n) = ap (begins (has (ascii "%"))) e
fault-percent (K.above b n) = begun-percent b
fault-percent (K.clash g n run split free x) = begun-percent n.begun
fault-percent (K.large_width f run n) = begun-percent f.named.begun
fault-percent (K.large_precision x run n) = begun-percent x.flagged.named.begun
fault-percent (K.no_letter x n) = begun-percent x.wide.flagged.named.begun
fault-percent (K.no_time_letter x i n) = begun-percent x.wide.flagged.named.begun
fault-percent (K.no_fit x n) = begun-percent x.precise.wide.flagged.named.begun

fault_byte : {ks : List ℕ} {before : List Part} {r : List ℕ} {refusal : Refusal} → Fault ks before r refusal → 1 ≤ length r
fault_byte {r = r} x = go r (fault-percent x)
  where
    go : (r : List ℕ) → begins (has (ascii "%")) r ≡ true → 1 ≤ length r
    go [] e = absurd (never e)
    go (b ∷ bs) e = omega arith

-- The bytes of the parts are those of the format up to what is left.
pub reads_bytes : {s ks : List ℕ} {before : List Part} {r : List ℕ} → Reads s ks before r → s ≡ bytes_before before ++ r
unfolding bytes_before
reads_bytes E.nothing = refl
reads_bytes (E.one {before} {r} {p} {rest} w x) =
    reads_bytes w ∙ ap (λ (l : List ℕ). bytes_before before ++ l) (stands_bytes x) ∙ sym (append_assoc (bytes_before before) (part_bytes p) rest)

module _ (s ks : List ℕ) (known : KindsKnown ks) where
  -- Where reading stands behind parts that stand in the format: a cursor whose numbers say what they are, the pieces so far, and what reading comes to from
  -- there.
  pub record Came (before : List Part) (r : List ℕ) : Type 0 where
    pub c : Cursor
    pub at : At before c
    pub here : drop c.at s ≡ r
    pub pieces : List Placed
    pub lists : Lists ks pieces before
    pub end : ended s ks ≡ end_from (most_pieces - length before) (piece_at s ks) (length s) c
    pub all : placed s ks ≡ pieces ++ placed_from (most_pieces - length before) (piece_at s ks) (length s) c

  came_start : Came [] s
  unfolding ended placed bytes_before counted_in last_named
  came_start = record {
    c = start;
    at = record { place = refl; count = refl; last = refl };
    here = refl;
    pieces = [];
    lists = Q.nothing;
    end = refl;
    all = refl;
  }

  -- a byte is left where the cursor stands
  byte_left : {before : List Part} {r : List ℕ} → (w : Came before r) → 1 ≤ length r → w.c.at < length s
  byte_left w h = omega (arith, length-drop w.c.at s, ap length w.here)

  none_left : {before : List Part} → (w : Came before []) → length s ≤ w.c.at
  none_left w = omega (arith, length-drop w.c.at s, ap length w.here)

  -- behind one more
  module _ {before : List Part} {r : List ℕ} {p : Part} {rest : List ℕ} (few : length before < most_pieces) (w : Came before r)
      (inside : w.c.at < length s) (f : Finds s ks w.c before p rest) where
    abbrev fuel : ℕ
    fuel = most_pieces - suc (length before)

    left : most_pieces - length before ≡ suc fuel
    left = omega arith

    abbrev listed : Placed
    listed = record { piece = f.piece; from = w.c.at; to = f.next.at }

    found_end : end_from (most_pieces - length before) (piece_at s ks) (length s) w.c ≡ end_from fuel (piece_at s ks) (length s) f.next
    found_end =
        ap (λ (n : ℕ). end_from n (piece_at s ks) (length s) w.c) left
        ∙ end_found (piece_at s ks) (length s) w.c inside fuel f.piece f.next f.found

    found_rest : placed_from (most_pieces - length before) (piece_at s ks) (length s) w.c
        ≡ listed ∷ placed_from fuel (piece_at s ks) (length s) f.next
    found_rest =
        ap (λ (n : ℕ). placed_from n (piece_at s ks) (length s) w.c) left
        ∙ placed_found (piece_at s ks) (length s) w.c inside fuel f.piece f.next f.found

    came_found : Came (p ∷ before) rest
    came_found = record {
      c = f.next;
      at = f.at;
      here = f.left;
      pieces = w.pieces ++ (listed ∷ []);
      lists = Q.one w.lists (subst (λ (n : ℕ). PieceIs ks n f.piece p) w.at.place f.is) w.at.place f.at.place;
      end = w.end ∙ found_end;
      all =
          w.all ∙ ap (λ (l : List Placed). w.pieces ++ l) found_rest
          ∙ sym (append_assoc w.pieces (listed ∷ []) (placed_from fuel (piece_at s ks) (length s) f.next));
    }

  came_next : {before : List Part} {r : List ℕ} {p : Part} {rest : List ℕ} → length before < most_pieces → Came before r → Stands ks before r p rest
      → Came (p ∷ before) rest
  came_next {before} {r} {p} {rest} few w x =
      let inside = byte_left w (omega (arith, some_bytes x, ap length (stands_bytes x), length-append (part_bytes p) rest)) in
      came_found few w inside (stands_finds s ks w.c before w.at inside known r w.here x)

  -- Reading comes to every part that stands in the format.
  pub came : {before : List Part} {r : List ℕ} → Reads s ks before r → length before ≤ most_pieces → Came before r
  came E.nothing h = came_start
  came (E.one w x) h = came_next (omega arith) (came w (omega arith)) x

  -- Where a cause stands, reading is stopped by it.
  pub stopped_by : {n : Refusal} {p : ℕ} → StopsReading s ks n p → ended s ks ≡ Err (stop n p)
  stopped_by (many {before} {b} {rest} w full) =
      let k = came w (omega arith) in
      let z : most_pieces - length before ≡ 0 = omega arith in
      let inside = byte_left k (omega arith) in
      k.end ∙ ap (λ (n : ℕ). end_from n (piece_at s ks) (length s) k.c) z ∙ end-many (piece_at s ks) (length s) k.c inside
      ∙ ap (λ (p : ℕ). Err (stop ManyPieces p)) k.at.place
  stopped_by (fault {before} {r} {refusal} w few x) =
      let k = came w (omega arith) in
      let m = most_pieces - suc (length before) in
      let z : most_pieces - length before ≡ suc m = omega arith in
      let inside = byte_left k (fault_byte x) in
      k.end ∙ ap (λ (n : ℕ). end_from n (piece_at s ks) (length s) k.c) z
      ∙ end_refused (piece_at s ks) (length s) k.c inside m refusal (fault_step s ks k.c before k.at known r k.here refusal x)
      ∙ ap (λ (p : ℕ). Err (stop refusal p)) k.at.place

  -- A format made of parts is read to its end, and its pieces are these.
  pub record Read (parts : List Part) : Type 0 where
    pub finished : ended s ks ≡ Ok tt
    pub lists : Lists ks (placed s ks) parts

  pub read_whole : {parts : List Part} → Whole s ks parts → Read parts
  read_whole {parts} w =
      let k = came w.reads w.few in
      let m = most_pieces - length parts in
      record {
        finished = k.end ∙ end_past (piece_at s ks) (length s) m k.c (none_left k);
        lists =
            subst (λ (l : List Placed). Lists ks l parts)
            (sym (k.all ∙ ap (λ (l : List Placed). k.pieces ++ l) (placed_past (piece_at s ks) (length s) m k.c (none_left k)) ∙ append-nil k.pieces))
            k.lists;
      }

-- Every format is made of parts, or stopped.
pub data Ends (s ks : List ℕ) : Type 0 where
  made : {parts : List Part} → Whole s ks parts → Ends s ks
  stops : {n : Refusal} {p : ℕ} → StopsReading s ks n p → Ends s ks

module _ (s ks : List ℕ) where
  ends_from_lem : (n : ℕ) (before : List Part) (r : List ℕ) → n + length before ≡ most_pieces → Reads s ks before r → Ends s ks
  ends_from_lem zero before r e w = go r w
    where
      go : (r : List ℕ) → Reads s ks before r → Ends s ks
      go [] w = made (record { reads = w; few = omega arith })
      go (b ∷ bs) w = stops (many w (omega arith))
  ends_from_lem (suc n) before r e w = go r w (λ p rest v. ends_from_lem n (p ∷ before) rest (omega arith) v)
    where
      judged : {r : List ℕ} → Reads s ks before r → Verdict ks before r → ((p : Part) (rest : List ℕ) → Reads s ks (p ∷ before) rest → Ends s ks) → Ends s ks
      judged w (stands {p} {rest} x) next = next p rest (E.one w x)
      judged w (faulty x) next = stops (fault w (omega arith) x)

      go : (r : List ℕ) → Reads s ks before r → ((p : Part) (rest : List ℕ) → Reads s ks (p ∷ before) rest → Ends s ks) → Ends s ks
      go [] w next = made (record { reads = w; few = omega arith })
      go (b ∷ bs) w next = judged w (verdict ks before b bs) next

  pub ends : Ends s ks
  ends = ends_from_lem most_pieces [] s refl E.nothing

-- So reading that is stopped has its cause, and a format that is read to its end is made of parts.
module _ (s ks : List ℕ) (known : KindsKnown ks) where
  pub cause_of : (n : Refusal) (p : ℕ) → ended s ks ≡ Err (stop n p) → StopsReading s ks n p
  cause_of n p e = go (ends s ks)
    where
      go : Ends s ks → StopsReading s ks n p
      go (made w) = absurd (finished_stopped (sym (read_whole s ks known w).finished ∙ e))
        where
          finished_stopped : ◌≡◌ {A = Ended} (Ok tt) (Err (stop n p)) → ⊥
          finished_stopped q = let z : ◌≡◌ {A = ℕ} 0 1 = cc in omega arith
      go (stops {n = m} {p = q} x) =
          let f = sym (stopped_by s ks known x) ∙ e in
          let same = same_stop f in
          subst (StopsReading s ks n) same.1 (subst (λ (k : Refusal). StopsReading s ks k q) same.0 x)

  pub record Made : Type 0 where
    pub parts : List Part
    pub whole : Whole s ks parts

  pub parts_of : ended s ks ≡ Ok tt → Made
  parts_of e = go (ends s ks)
    where
      go : Ends s ks → Made
      go (made {parts} w) = record { parts = parts; whole = w }
      go (stops {n = n} {p = p} x) = absurd (stopped_finished (sym (stopped_by s ks known x) ∙ e))
        where
          stopped_finished : ◌≡◌ {A = Ended} (Err (stop n p)) (Ok tt) → ⊥
          stopped_finished q = let z : ◌≡◌ {A = ℕ} 0 1 = cc in omega arith
