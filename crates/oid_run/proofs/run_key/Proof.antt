-- `run_key` is right by the laws of the key of a part of a list.
-- Assumes nothing.
use mathlib.Core.Path.{refl, ◌∙◌}
use Rattle.chain.proofs.Keyed.{short_key, long_key}
use borrow.Author.Rules.{rules}
use Rattle.oid_run.proofs.run_key.Statement.{statement}
use Rattle.oid_run.proofs.run_key.Tie as tie

returns : tie.Need-returns-then-size-lt3
returns c = let a = c.args.a in short_key _ a.from.0 a.count c.requires c.if-size-lt3.true

add-end : tie.Need-overflow_add-end
add-end c = search rules

sub_wide : tie.Need-overflow_sub-end
sub_wide c = search rules

mul_wide : tie.Need-offset_bounds-numbers-end
mul_wide c = search rules

shared-slice-read-wide : tie.Need-bounds-numbers-end
shared-slice-read-wide c = search rules

wide-requires : tie.Need-wide-requires
wide-requires c κs = search rules

sub-wide-2 : tie.Need-overflow_sub-end-2
sub-wide-2 c = search rules

mul-wide-2 : tie.Need-offset_bounds-numbers-end-2
mul-wide-2 c = search rules

shared-slice-read-wide-2 : tie.Need-bounds-numbers-end-2
shared-slice-read-wide-2 c = search rules

wide-requires-2 : tie.Need-wide-requires-2
wide-requires-2 c κs = search rules

sub-wide-3 : tie.Need-overflow_sub-end-3
sub-wide-3 c = search rules

mul_wide_3 : tie.Need-offset_bounds-numbers-end-3
mul_wide_3 c = search rules

shared-slice-read-wide-3 : tie.Need-bounds-numbers-end-3
shared-slice-read-wide-3 c = search rules

wide-requires-3 : tie.Need-wide-requires-3
wide-requires-3 c κs = search rules

key-requires : tie.Need-key-requires
key-requires c κs = search rules

returns-2 : tie.Need-returns
returns-2 c =
    let last = c in
    let second = last in
    let third = second in
    let long = third in
    let s = long in
    c.key.ensures ∙ rw (third.wide.ensures, second.wide-2.ensures, last.wide-3.ensures)
    (long_key _ s.args.a.from.0 s.args.a.count s.requires long.if-size-lt3.false _ refl)

pub run_key_spec : {M : Type 1} → statement M
run_key_spec =
    tie.close
    (tie.spec
    returns
    add-end
    sub_wide
    mul_wide
    shared-slice-read-wide
    wide-requires
    sub-wide-2
    mul-wide-2
    shared-slice-read-wide-2
    wide-requires-2
    sub-wide-3
    mul_wide_3
    shared-slice-read-wide-3
    wide-requires-3
    key-requires
    returns-2)
