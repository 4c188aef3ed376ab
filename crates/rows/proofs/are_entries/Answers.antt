-- `rows::are_entries` meets its contract. Assumes nothing.
use Rattle.std.proofs.Common.{◌≡◌, ℕ, zero, suc, ◌+◌, ◌&&◌, List, refl, ap, ◌∙◌, rules, arith, tests}
use Rattle.std.specs.List.{range_with_len, list_all}
use Rattle.std.proofs.lemmas.Iterator.{YieldsList-from_range}
use Rattle.std.proofs.lemmas.Iterator.Search.{all_from_yields_List}
use Rattle.rows.specs.Entry.{is_entry}
use Rattle.rows.specs.Row.{text_area, entry_at, entries_from}
use Rattle.rows.proofs.are_entries.Goals as goal

-- the entries from a + 1 on, as `all` tests them
entries_all : (k : ℕ) (row : List ℕ) (a : ℕ)
    → list_all (λ i. is_entry (text_area row) (entry_at row (i + 1))) (range_with_len a k) ≡ entries_from k row (a + 1)
unfolding entries_from
entries_all zero row a = refl
entries_all (suc k) row a = ap (λ b. is_entry (text_area row) (entry_at row (a + 1)) && b) (entries_all k row (a + 1))

pub returns : goal.returns
returns c =
    let row = c.args.row.now in
    let n = c.args.n in
    all_from_yields_List (λ i. is_entry (text_area row) (entry_at row (i + 1))) _ _ c.all.result c.all.ensures.ran
    (YieldsList-from_range 0 n n refl (omega arith)) (λ x b q k. search (rules, tests))
    ∙ entries_all n row 0
