-- What stands around the text of a value: spaces, mark, prefix and zeros in front of it, a closing mark and spaces behind it.
use Rattle.std.specs.Prelude.{ℕ, ◌+◌, ◌-◌, List, [], ◌++◌, length, replicate}
use Prim.Native.Char.{code}
use Rattle.writing.specs.Text.{ascii}
use Rattle.frames.specs.declared.Mark.{Mark}
use Rattle.frames.specs.declared.Mark.TheVariants.{NoMark, Plus, Space, Minus, Brackets}
use Rattle.frames.specs.declared.Prefix.{Prefix}
use Rattle.frames.specs.declared.Prefix.TheVariants.{NoPrefix, Octal, HexLower, HexUpper}
use Rattle.frames.specs.declared.Adjust.{Adjust}
use Rattle.frames.specs.declared.Adjust.TheVariants.{Right, Left, Zeros}
use Rattle.frames.specs.declared.Frame.{Frame}

-- 01: "Mark: `(` and `)` or `-` for negatives, else `+`, else space." In front of the digits:
abbrev pub opening : Mark → List ℕ
opening NoMark = []
opening Plus = ascii "+"
opening Space = ascii " "
opening Minus = ascii "-"
opening Brackets = ascii "("

-- and behind them:
abbrev pub closing : Mark → List ℕ
closing NoMark = []
closing Plus = []
closing Space = []
closing Minus = []
closing Brackets = ascii ")"

-- 01: "`#` puts `0x`, `0X` or `0` in front, zeros of padding after it."
abbrev pub prefix_text : Prefix → List ℕ
prefix_text NoPrefix = []
prefix_text Octal = ascii "0"
prefix_text HexLower = ascii "0x"
prefix_text HexUpper = ascii "0X"

-- Mark and prefix, as they stand before zeros and digits.
abbrev pub marks : Mark → Prefix → List ℕ
marks m p = opening m ++ prefix_text p

unfoldable pub spaces : ℕ → List ℕ
spaces n = replicate n (code " ")

-- In front of the value's text: spaces, mark, prefix, zeros.
unfoldable pub head_text : Frame → List ℕ
head_text f = spaces f.before ++ (marks f.mark f.prefix ++ replicate f.zeros (code "0"))

-- Behind it. 02, E2, in the place of 01's sentence on `-` and `)`: "spaces of left adjustment stand after the whole number."
unfoldable pub tail_text : Frame → List ℕ
tail_text f = closing f.mark ++ spaces f.after

-- The text of a value in its frame.
unfoldable pub framed : Frame → List ℕ → List ℕ
framed f body = head_text f ++ (body ++ tail_text f)

-- 01: "The width left for digits is width less marks, at least 0", the prefix counting too: what mark, prefix and a text of n leave of the width.
unfoldable pub spare : ℕ → Mark → Prefix → ℕ → ℕ
spare width m p n = width - (length (marks m p) + n + length (closing m))

-- Java, "Flags": without a flag the padding stands in front as spaces, with `0` as zeros behind mark and prefix, with `-` behind as spaces.
unfoldable pub frame_of : ℕ → Adjust → Mark → Prefix → ℕ → Frame
frame_of width Right m p n = record { before = spare width m p n; mark = m; prefix = p; zeros = 0; after = 0 }
frame_of width Zeros m p n = record { before = 0; mark = m; prefix = p; zeros = spare width m p n; after = 0 }
frame_of width Left m p n = record { before = 0; mark = m; prefix = p; zeros = 0; after = spare width m p n }

-- A text brought to a width: the length that counts is that of the text itself.
unfoldable pub padded : ℕ → Adjust → Mark → Prefix → List ℕ → List ℕ
padded width a m p body = framed (frame_of width a m p (length body)) body
