-- One use is printed at each turn, and its bound leaves room for those that follow.
-- Assumes nothing.
use Rattle.std.proofs.Common.{rules, ℕ, ◌+◌, ◌-◌, ◌≡◌, List, Result, Ok, refl, sym, ◌∙◌, arith}
use Rattle.hint_piece.specs.declared.BadOctet.{BadOctet}
use Rattle.hint_piece.specs.Use.{uses}
use Rattle.hint_form.proofs.HintLaws.{longest_small}
use Rattle.digit.proofs.Sizes.{Octets}
use Rattle.hint_piece.proofs.UsesLaws.{uses_none, uses_past, uses_step}
use Rattle.hint_piece.proofs.Bounds.{one_size}
use Rattle.hint_piece.proofs.Outcomes.{followed_as, followed_none, followed_next, followed_joined, followed_fault}
use Rattle.hint_piece.proofs.print_uses.Goals as goal

pub returns-then-value-at : goal.returns-then-value-at
returns-then-value-at c =
    let a = c.args in
    let here = c.loop-left in
    let end = uses_past here.left a.piece a.value.now here.at c.if-value-at.true in
    here.invariant.0 (Ok here.next) here.out (followed_as (sym end) refl (followed_none here.next here.out))

pub returns-in_err-next : goal.returns-in_err-next
returns-in_err-next c =
    let a = c.args in
    let here = c.loop-left in
    let same : c.from_residual.result ≡ c.print_one.result = search rules in
    let step = uses_step here.left a.piece a.value.now here.at (omega arith) c.if-value-at.false in
    let rest = uses (here.left - 1) a.piece a.value.now (here.at + a.piece.size) in
    here.invariant.0 c.from_residual.result c.print_one.new.out
    (followed_as (sym step) (sym (same ∙ c.in_err-next.was)) (followed_fault rest c.in_err-next.ensures))

pub overflow_add-at : goal.overflow_add-at
overflow_add-at c = omega (arith, c.requires, c.loop-left.invariant, longest_small c.args.piece.format)

pub loop-left-preserved : goal.loop-left-preserved
loop-left-preserved c =
    let a = c.args in
    let here = c.loop-left in
    let q = c.requires in
    let octets : Octets a.value.now = λ (k : ℕ). omega (arith, c.type_inv.value k) in
    let short = one_size a.piece a.value.now q.some q.allowed octets (here.left - 1) here.at c.if-value-at.false in
    let step = uses_step here.left a.piece a.value.now here.at (omega arith) c.if-value-at.false in
    let place = followed_next c.in_ok-next.ensures in (
      λ (r : Result ℕ BadOctet) (after : List ℕ) h. here.invariant.0 r after
          (followed_as (sym step) refl (followed_joined (omega arith) c.in_ok-next.ensures h)),
      omega (arith, c.print_one.auto.out),
      omega (arith, q, longest_small a.piece.format, c.if-value-at.false),
    )

pub returns : goal.returns
returns c =
    let a = c.args in
    let here = c.loop-left in
    let none = uses_none here.left a.piece a.value.now here.at (omega arith) in
    here.invariant.0 (Ok here.next) here.out (followed_as (sym none) refl (followed_none here.next here.out))
