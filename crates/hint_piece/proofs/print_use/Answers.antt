-- The format picks the case, and the bound on a use says that the text fits.
-- Assumes nothing.
use Rattle.std.proofs.Common.{ℕ, ◌≡◌, length, sym, ◌∙◌, arith}
use Rattle.character.specs.Character.{character_size, characters}
use Rattle.digit.specs.Digits.{digits, big_endian}
use Rattle.hint_form.specs.Hint.{base_of}
use Rattle.hint_piece.specs.Followed.{wrote, failed}
use Rattle.hint_form.proofs.HintLaws.{longest_small}
use Rattle.digit.proofs.Sizes.{Octets, number_short}
use Rattle.character.proofs.CutLaws.{stuck_there, stuck_below}
use Rattle.buffer.proofs.Writing.{wrote_as}
use Rattle.hint_piece.proofs.Bounds.{number_format}
use Rattle.hint_piece.proofs.UsesLaws.{passed_stuck, passed_whole}
use Rattle.hint_piece.proofs.print_use.Goals as goal

pub big_endian-n-requires : goal.big_endian-n-requires
big_endian-n-requires c =
    let known = number_format c.args.format (sym c.passes_on.ensures ∙ c.if-not-passes_on.true) (omega (arith, c.requires)) in
    omega (arith, c.requires, known.2)

pub print_digits-requires-clause-least : goal.print_digits-requires-clause-least
print_digits-requires-clause-least c =
    let known = number_format c.args.format (sym c.passes_on.ensures ∙ c.if-not-passes_on.true) (omega (arith, c.requires)) in
    omega (arith, known.0, c.base_of-base.ensures)

pub print_digits-requires-clause-most : goal.print_digits-requires-clause-most
print_digits-requires-clause-most c =
    let known = number_format c.args.format (sym c.passes_on.ensures ∙ c.if-not-passes_on.true) (omega (arith, c.requires)) in
    omega (arith, known.1, c.base_of-base.ensures)

pub print_digits-requires-clause-room : goal.print_digits-requires-clause-room
print_digits-requires-clause-room c =
    let a = c.args in
    let known = number_format a.format (sym c.passes_on.ensures ∙ c.if-not-passes_on.true) (omega (arith, c.requires)) in
    let octets : Octets a.s.now = λ (k : ℕ). omega (arith, c.type_inv.s k) in
    let short = number_short (base_of a.format) a.s.now known.0 c.requires.some octets in
    rw (c.base_of-base.ensures, c.big_endian-n.ensures) (omega (arith, c.requires))

pub returns-then-not-passes_on : goal.returns-then-not-passes_on
unfolding Rattle.hint_piece.specs.Use.use_text
returns-then-not-passes_on c =
    let same : digits c.base_of-base.result c.big_endian-n.result ≡ digits (base_of c.args.format) (big_endian 0 c.args.s.now) =
    rw (c.base_of-base.ensures, c.big_endian-n.ensures) in
    simp (sym c.passes_on.ensures ∙ c.if-not-passes_on.true) (wrote (wrote_as same c.print_digits.ensures))

pub overflow_add-result : goal.overflow_add-result
overflow_add-result c =
    let a = c.args in
    let at = stuck_there (characters a.format a.s.now) c.in-Some.i (sym c.first_fault.ensures ∙ c.in-Some.is) in
    let below = stuck_below (character_size a.format a.s.now) (length a.s.now) c.in-Some.i at in
    omega (arith, longest_small a.format, c.requires)

pub returns-in-Some : goal.returns-in-Some
unfolding Rattle.hint_piece.specs.Use.use_text
returns-in-Some c =
    let a = c.args in
    let at = passed_stuck a.at a.s.now (characters a.format a.s.now) c.in-Some.i (sym c.first_fault.ensures ∙ c.in-Some.is) in
    simp (sym c.passes_on.ensures ∙ c.if-not-passes_on.false, at) failed

pub returns-in-None : goal.returns-in-None
unfolding Rattle.hint_piece.specs.Use.use_text
returns-in-None c =
    let a = c.args in
    let at = passed_whole a.at a.s.now (characters a.format a.s.now) (sym c.first_fault.ensures ∙ c.in-None.is) in
    simp (sym c.passes_on.ensures ∙ c.if-not-passes_on.false, at) (wrote c.copy.ensures)
