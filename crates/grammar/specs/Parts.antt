-- The parts that a format is made of, as they are written. For laws alone.
use Rattle.std.specs.Prelude.{ℕ, suc, max, List, [], ◌∷◌, ◌++◌, Option, None, Some}
use Prim.Native.Char.{code}
use Rattle.writing.specs.Text.{ascii}

-- How an element names its argument: by `<`, by an index before `$`, or by the running count.
pub data Choice : Type 0 where
  same : Choice
  index : List ℕ → Choice
  counted : Choice

abbrev pub choice_bytes : Choice → List ℕ
choice_bytes same = ascii "<"
choice_bytes (index ds) = ds ++ ascii "$"
choice_bytes counted = []

-- An element as it is written: how it names its argument, which one that is, its flags, the digits of its width, the digits behind its `.` if it has one,
-- and its letter, which is two bytes for t and T.
pub record Written : Type 0 where
  pub choice : Choice
  pub argument : ℕ
  pub flags : List ℕ
  pub width : List ℕ
  pub precision : Option (List ℕ)
  pub letter : List ℕ

abbrev pub precision_bytes : Option (List ℕ) → List ℕ
precision_bytes None = []
precision_bytes (Some ds) = code "." ∷ ds

-- Java, "Format String Syntax": `%`, then the index, flags, width, precision and conversion.
abbrev pub element_bytes : Written → List ℕ
element_bytes w = code "%" ∷ (choice_bytes w.choice ++ (w.flags ++ (w.width ++ (precision_bytes w.precision ++ w.letter))))

-- 01: "Non-empty text up to the next `%`", "`%%`", "`%n`", or an element.
pub data Part : Type 0 where
  text : List ℕ → Part
  percent : Part
  newline : Part
  element : Written → Part

abbrev pub part_bytes : Part → List ℕ
part_bytes (text t) = t
part_bytes percent = ascii "%%"
part_bytes newline = ascii "%n"
part_bytes (element w) = element_bytes w

-- Parts that stand one behind the other, the last of them first: their bytes,
unfoldable pub bytes_before : List Part → List ℕ
bytes_before [] = []
bytes_before (p ∷ before) = bytes_before before ++ part_bytes p

-- how many elements the running count has named,
abbrev pub counted_by : Choice → ℕ → ℕ
counted_by same n = n
counted_by (index ds) n = n
counted_by counted n = suc n

abbrev pub counted_with : Part → ℕ → ℕ
counted_with (text t) n = n
counted_with percent n = n
counted_with newline n = n
counted_with (element w) n = counted_by w.choice n

unfoldable pub counted_in : List Part → ℕ
counted_in [] = 0
counted_in (p ∷ before) = counted_with p (counted_in before)

-- "the argument of the last element read without `<`", if there is one,
abbrev pub named_by : Choice → ℕ → Option ℕ → Option ℕ
named_by same a others = others
named_by (index ds) a others = Some a
named_by counted a others = Some a

abbrev pub named_with : Part → Option ℕ → Option ℕ
named_with (text t) others = others
named_with percent others = others
named_with newline others = others
named_with (element w) others = named_by w.choice w.argument others

unfoldable pub last_named : List Part → Option ℕ
last_named [] = None
last_named (p ∷ before) = named_with p (last_named before)

-- and "the largest argument index used, 0 if none".
abbrev pub argument_in : Part → ℕ
argument_in (text t) = 0
argument_in percent = 0
argument_in newline = 0
argument_in (element w) = w.argument

unfoldable pub largest_in : List Part → ℕ
largest_in [] = 0
largest_in (p ∷ before) = max (largest_in before) (argument_in p)
