-- `dates::write_symbols` meets its contract. Assumes nothing.
use Rattle.std.proofs.Common.{◌+◌, ◌<◌, length, arith, length-take, length-drop}
use Rattle.writing.proofs.Chained.{wrote_two}
use Rattle.numerals.specs.Integers.{int_of}
use Rattle.dates.proofs.Symbols.{text_next, room_next, room_within}
use Rattle.dates.proofs.write_symbols.Goals as goal

-- the part of this turn has room behind what is written
pub write_part-at-requires : goal.write_part-at-requires
write_part-at-requires c =
    let l = c.loop-letter in
    let s = c.args.letters.now in
    let i = l.letter-index in
    let inside : i < length s = omega arith in
    let part = c.part_of.ensures in (
      part.1.0,
      simp (length-take, length-drop)
          (omega (arith, part.1.1, room_next s i inside, room_within s (i + 1), l.invariant.0, c.requires)),
    )

pub loop-letter-preserved : goal.loop-letter-preserved
loop-letter-preserved c =
    let l = c.loop-letter in
    let s = c.args.letters.now in
    let i = l.letter-index in
    let inside : i < length s = omega arith in
    let part = c.part_of.ensures in
    let wrote = rw part.0 at c.write_part-at.ensures.0 in
    let two = wrote_two _ _ _ _ _ _ _ l.invariant.1 wrote in (
      omega (arith, part.1.1, room_next s i inside, c.write_part-at.ensures.1, l.invariant.0),
      rw (← text_next s i inside (int_of 64 c.args.timestamp) c.args.m) at two,
    )
