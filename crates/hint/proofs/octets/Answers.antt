-- The tests are the verdict's, in its order; the part is zeroed before anything is written, and again after a fault.
-- Assumes nothing.
use Rattle.std.proofs.Common.{◌≡◌, ◌∙◌, Err, List, ℕ, length, take, length-take, refl, sym, arith}
use Rattle.hint.specs.declared.Refusal.TheVariants.{LongValue, BadHint, BadOctet}
use Rattle.hint.specs.Answer.{octets_verdict}
use Rattle.hint.proofs.Answers.{answered_short, answered_refusal, answered_printed, zeros_again, fault_refusal, octets_short, octets_long, octets_hint, octets_printed}
use Rattle.hint.proofs.octets.Goals as goal

pub returns-then-out-lt4096 : goal.returns-then-out-lt4096
returns-then-out-lt4096 c =
    let a = c.args in
    let room = length a.out.now in
    answered_short 4096 (octets_verdict room a.hint.now a.value.now) a.out.now
    (octets_short room a.hint.now a.value.now c.if-out-lt4096.true)

pub returns-then-value-gt1024 : goal.returns-then-value-gt1024
returns-then-value-gt1024 c =
    let a = c.args in
    let room = length a.out.now in
    let why = octets_long room a.hint.now a.value.now c.if-out-lt4096.false c.if-value-gt1024.true in
    answered_refusal 4096 (octets_verdict room a.hint.now a.value.now) (Err LongValue) a.out.now c.clear.new.out 31 0 why refl refl refl refl
    c.clear.ensures

pub returns-then-not-is_hint : goal.returns-then-not-is_hint
returns-then-not-is_hint c =
    let a = c.args in
    let room = length a.out.now in
    let no = sym c.is_hint.ensures ∙ c.if-not-is_hint.true in
    let why = octets_hint room a.hint.now a.value.now c.if-out-lt4096.false c.if-value-gt1024.false no in
    answered_refusal 4096 (octets_verdict room a.hint.now a.value.now) (Err BadHint) a.out.now c.clear.new.out 32 0 why refl refl refl refl
    c.clear.ensures

pub returns-in-Ok : goal.returns-in-Ok
returns-in-Ok c =
    let a = c.args in
    let hint = sym c.is_hint.ensures ∙ c.if-not-is_hint.false in
    let why = octets_printed (length a.out.now) a.hint.now a.value.now c.if-out-lt4096.false c.if-value-gt1024.false hint in
    answered_printed 4096 a.out.now c.clear.new.out c.clear.ensures why c.in-Ok.ensures

pub returns-in-Err : goal.returns-in-Err
returns-in-Err c =
    let a = c.args in
    let room = length a.out.now in
    let hint = sym c.is_hint.ensures ∙ c.if-not-is_hint.false in
    let by_printing = octets_printed room a.hint.now a.value.now c.if-out-lt4096.false c.if-value-gt1024.false hint in
    let part : List ℕ = c.print_pieces.new.out in
    let part_long : length (take 4096 c.clear.new.out) ≡ 4096 = length-take 4096 c.clear.new.out ∙ omega (arith, c.clear.auto.out, c.if-out-lt4096.false) in
    let long : length part ≡ 4096 = c.print_pieces.auto.out ∙ part_long in
    let why = by_printing ∙ fault_refusal c.in-Err.ensures in
    let zeros = zeros_again 4096 a.out.now c.clear.new.out c.clear.ensures part c.clear-in-Err.new.out long c.clear-in-Err.ensures in
    answered_refusal 4096 (octets_verdict room a.hint.now a.value.now) (Err (BadOctet c.in-Err.field-0.0)) a.out.now c.clear-in-Err.new.out
    33 c.in-Err.field-0.0 why refl refl refl refl zeros
