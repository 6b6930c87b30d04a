-- A turn prints the uses of one piece; the next starts at the piece behind it, or again at the last.
-- Assumes nothing.
use Rattle.std.proofs.Common.{rules, ℕ, ◌≤◌, ◌<◌, ◌≡◌, Ok, length, refl, sym, ap, ◌∙◌, arith}
use Rattle.character.specs.Cut.{stuck_at}
use Rattle.hint_form.specs.Hint.{piece_end}
use Rattle.hint.specs.Print.{printing}
use Rattle.digit.proofs.Sizes.{Octets}
use Rattle.hint_form.proofs.HintLaws.{found_nothing}
use Rattle.hint_form.proofs.PieceLaws.{cut_from, pieces_from, pieces_allowed, piece_there, stuck_step, hint_pieces}
use Rattle.hint_piece.proofs.UsesLaws.{uses_start_near}
use Rattle.hint_piece.proofs.Outcomes.{followed_as, followed_none}
use Rattle.hint.proofs.PrintingLaws.{print_start, print_end, turn_next, turn_last}
use Rattle.hint.proofs.Turns.{turn_of, piece_fits, octets_few, octets_fall, fault_follows, printing_on}
use Rattle.hint.proofs.pieces.print_pieces.Goals as goal

pub loop-at-init : goal.loop-at-init
loop-at-init c =
    let a = c.args in
    let known = hint_pieces a.hint.now c.requires.readable in
    record {
      follows = λ r after f.
          followed_as
          (print_start a.value.now (pieces_from a.hint.now 0) ∙ sym (ap (λ ps. printing ps a.value.now) known.0))
          refl f;
      room = omega (arith, c.requires);
      inside = known.1;
      readable = known.2;
    }

pub returns-in_default : goal.returns-in_default
returns-in_default c =
    let h = c.args.hint.now in
    let here = c.loop-at in
    let no = found_nothing h here.cursor (sym c.in_default.is ∙ c.piece_at.ensures) in
    let yes₁ = piece_there h here.cursor here.invariant.inside here.invariant.readable in
    let z : ◌≡◌ {A = ℕ} 0 1 = cc in
    absurd (omega arith)

pub print_uses-requires-clause-early : goal.print_uses-requires-clause-early
print_uses-requires-clause-early c =
    omega (arith, c.uses_start-start.ensures, uses_start_near c.in-Some.piece c.loop-at.at, c.requires)

pub print_uses-requires-clause-some : goal.print_uses-requires-clause-some
print_uses-requires-clause-some c = (piece_fits (turn_of c.in-Some.ensures c.uses_start-start.ensures c.repeats_of-count.ensures)).0

pub print_uses-requires-clause-allowed : goal.print_uses-requires-clause-allowed
print_uses-requires-clause-allowed c = (piece_fits (turn_of c.in-Some.ensures c.uses_start-start.ensures c.repeats_of-count.ensures)).1

pub print_uses-requires-clause-room : goal.print_uses-requires-clause-room
print_uses-requires-clause-room c =
    omega (arith, c.loop-at.invariant.room, c.uses_start-start.ensures, uses_start_near c.in-Some.piece c.loop-at.at)

pub returns-in_err-pos : goal.returns-in_err-pos
returns-in_err-pos c =
    let same : c.from_residual.result ≡ c.print_uses.result = search rules in
    let turn = turn_of c.in-Some.ensures c.uses_start-start.ensures c.repeats_of-count.ensures in
    followed_as refl (sym (same ∙ c.in_err-pos.was)) (fault_follows turn c.loop-at.invariant c.loop-at-test.true c.in_err-pos.ensures)

pub overflow_mul-at : goal.overflow_mul-at
overflow_mul-at c =
    let octets : Octets c.args.value.now = λ (k : ℕ). omega (arith, c.type_inv.value k) in
    omega (arith, octets_few (turn_of c.in-Some.ensures c.uses_start-start.ensures c.repeats_of-count.ensures) octets)

pub overflow_add-at : goal.overflow_add-at
overflow_add-at c =
    let octets : Octets c.args.value.now = λ (k : ℕ). omega (arith, c.type_inv.value k) in
    let few = octets_few (turn_of c.in-Some.ensures c.uses_start-start.ensures c.repeats_of-count.ensures) octets in
    omega (arith, few, c.uses_start-start.ensures, uses_start_near c.in-Some.piece c.loop-at.at, c.requires)

pub loop-at-smaller-then-next-hint : goal.loop-at-smaller-then-next-hint
loop-at-smaller-then-next-hint c =
    octets_fall (turn_of c.in-Some.ensures c.uses_start-start.ensures c.repeats_of-count.ensures) c.loop-at-test.true

pub loop-at-preserved-then-next-hint : goal.loop-at-preserved-then-next-hint
loop-at-preserved-then-next-hint c =
    let h = c.args.hint.now in
    let here = c.loop-at in
    let inv = here.invariant in
    let octets : Octets c.args.value.now = λ (k : ℕ). omega (arith, c.type_inv.value k) in
    let turn = turn_of c.in-Some.ensures c.uses_start-start.ensures c.repeats_of-count.ensures in
    let next : c.in-Some.next ≡ piece_end h here.cursor = turn.next_is in
    let inside : piece_end h here.cursor < length h = omega (arith, c.if-next-hint.true) in
    let turned = turn_next h here.cursor inv.inside inv.readable inside ∙ ap (pieces_from h) (sym next) in
    let readable = ap (λ (n : ℕ). stuck_at (cut_from h n)) next ∙ stuck_step h here.cursor inv.inside turn.stands ∙ inv.readable in
    printing_on turn inv c.loop-at-test.true octets c.in_ok-pos.ensures c.print_uses.auto.out c.in-Some.next turned c.if-next-hint.true readable

pub loop-at-smaller : goal.loop-at-smaller
loop-at-smaller c =
    octets_fall (turn_of c.in-Some.ensures c.uses_start-start.ensures c.repeats_of-count.ensures) c.loop-at-test.true

pub loop-at-preserved : goal.loop-at-preserved
loop-at-preserved c =
    let h = c.args.hint.now in
    let here = c.loop-at in
    let inv = here.invariant in
    let octets : Octets c.args.value.now = λ (k : ℕ). omega (arith, c.type_inv.value k) in
    let turn = turn_of c.in-Some.ensures c.uses_start-start.ensures c.repeats_of-count.ensures in
    let next : c.in-Some.next ≡ piece_end h here.cursor = turn.next_is in
    let past : length h ≤ piece_end h here.cursor = omega (arith, c.if-next-hint.false) in
    let turned = turn_last h here.cursor inv.inside inv.readable past in
    printing_on turn inv c.loop-at-test.true octets c.in_ok-pos.ensures c.print_uses.auto.out here.cursor turned inv.inside inv.readable

pub returns : goal.returns
returns c =
    let a = c.args in
    let here = c.loop-at in
    let end = print_end a.value.now (pieces_from a.hint.now here.cursor) here.at (pieces_allowed a.hint.now here.cursor) c.loop-at-test.false in
    here.invariant.follows (Ok here.pos) here.out (followed_as (sym end) refl (followed_none here.pos here.out))
