-- The tests are the verdict's, in its order; the part is zeroed before the text is written.
-- Assumes nothing.
use Rattle.std.proofs.Common.{Some, Err, length, refl, sym, ap, subst, ◌∙◌}
use mir.Facts.{to_z-of_z}
use Rattle.hint_integer.specs.Signed.{in_range, signed}
use Rattle.hint.specs.declared.Refusal.TheVariants.{BadHint, OutOfRange}
use Rattle.hint.specs.Answer.{integer_verdict}
use Rattle.buffer.proofs.Writing.{wrote_as}
use Rattle.hint_integer.specs.Form.{Usable}
use Rattle.hint_integer.proofs.FormLaws.{form_usable}
use Rattle.hint.proofs.Answers.{answered_short, answered_refusal, answered_text, integer_short, integer_hint, integer_range, integer_text}
use Rattle.hint.proofs.integer.Goals as goal

pub returns-then-out-lt64 : goal.returns-then-out-lt64
returns-then-out-lt64 c =
    let a = c.args in
    let room = length a.out.now in
    answered_short 64 (integer_verdict room a.hint.now a.value) a.out.now (integer_short room a.hint.now a.value c.if-out-lt64.true)

pub returns-in_default : goal.returns-in_default
returns-in_default c =
    let a = c.args in
    let room = length a.out.now in
    let none = sym c.form_of.ensures ∙ c.in_default.is in
    let why = integer_hint room a.hint.now a.value c.if-out-lt64.false none in
    answered_refusal 64 (integer_verdict room a.hint.now a.value) (Err BadHint) a.out.now c.clear.new.out 32 0 why refl refl refl refl
    c.clear.ensures

pub returns-then-not-in_range : goal.returns-then-not-in_range
returns-then-not-in_range c =
    let a = c.args in
    let room = length a.out.now in
    let some = sym c.form_of.ensures ∙ c.in-Some.is in
    let outside = sym (c.in_range.ensures ∙ ap in_range (to_z-of_z c.ranges.value)) ∙ c.if-not-in_range.true in
    let why = integer_range room a.hint.now a.value c.if-out-lt64.false some outside in
    answered_refusal 64 (integer_verdict room a.hint.now a.value) (Err OutOfRange) a.out.now c.clear.new.out 34 0 why refl refl refl refl
    c.clear.ensures

pub print_signed-requires-clause-usable : goal.print_signed-requires-clause-usable
print_signed-requires-clause-usable c =
    subst Usable (sym c.form_of.ensures ∙ c.in-Some.is) (form_usable c.args.hint.now)

pub returns : goal.returns
returns c =
    let a = c.args in
    let same = to_z-of_z c.ranges.value in
    let some = sym c.form_of.ensures ∙ c.in-Some.is in
    let within = sym (c.in_range.ensures ∙ ap in_range same) ∙ c.if-not-in_range.false in
    let why = integer_text (length a.out.now) a.hint.now a.value c.if-out-lt64.false some within in
    answered_text 64 a.out.now c.clear.new.out c.clear.ensures why (wrote_as (ap (signed (Some c.in-Some.form)) same) c.print_signed.ensures)
