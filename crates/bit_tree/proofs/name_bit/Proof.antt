-- `name_bit` is right because a name's bytes stand from its start to its end.
-- Assumes nothing.
use Prim.Native.Nat.{◌+◌}
use native.Mathlib.Omega.{arith}
use Rattle.bit_tree.proofs.Word.{bit_inside, bit_outside}
use borrow.Author.Rules.{rules}
use Rattle.bit_tree.proofs.name_bit.Statement.{statement}
use Rattle.bit_tree.proofs.name_bit.Tie as tie

sub-size : tie.Need-overflow_sub-size
sub-size c = search rules

bit-byte-requires : tie.Need-bit_byte-requires
bit-byte-requires c κs = search rules

add-bit : tie.Need-overflow_add-start
add-bit c = search rules

shared-slice-read-bit : tie.Need-bounds-text-start
shared-slice-read-bit c = search rules

cast-bit : tie.Need-overflow_cast-text
cast-bit c =
    let s = c.before.before.before.before in
    omega (arith, c.shared_slice_known-then-d-size-1.given (s.args.start + c.bit_byte.result))

bit-requires : tie.Need-bit-requires
bit-requires c κs = search rules

returns : tie.Need-returns-then-d-size
returns c =
    let b = c.before.before in
    let s = b.before.before.before in
    bit_inside s.args.text.now _ _ _ s.requires b.if-d-size.true _ b.bit_byte.ensures.0 b.bit_byte.ensures.1 _ c.bit.ensures

returns-2 : tie.Need-returns
returns-2 c =
    let s = c.before.before in
    bit_outside s.args.text.now _ _ _ s.requires c.if-d-size.false

pub name_bit_spec : {M : Type 1} → statement M
name_bit_spec =
    tie.close
    (tie.spec
    sub-size
    bit-byte-requires
    add-bit
    shared-slice-read-bit
    cast-bit
    bit-requires
    returns
    returns-2)
