-- A hidden byte is written as its number, and any other as itself.
use Rattle.std.proofs.Common.{arith}
use Rattle.buffer.proofs.Writing.{wrote_as}
use Rattle.visible.specs.Visible.{escaped, seen}
use Rattle.visible.proofs.write_seen.Goals as goal

pub returns-then-is_hidden-clause-bytes : goal.returns-then-is_hidden-clause-bytes
unfolding seen
returns-then-is_hidden-clause-bytes c = wrote_as (simp (← c.is_hidden.ensures, c.if-is_hidden.true, c.byte_at.ensures)) c.write_escaped.ensures

pub returns-then-is_hidden-clause-short : goal.returns-then-is_hidden-clause-short
unfolding escaped
returns-then-is_hidden-clause-short c = omega (arith, c.write_escaped.ensures.next_is)

pub returns-clause-bytes : goal.returns-clause-bytes
unfolding seen
returns-clause-bytes c = wrote_as (simp (← c.is_hidden.ensures, c.if-is_hidden.false, c.byte_at-2.ensures)) c.put.ensures
