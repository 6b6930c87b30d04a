-- `judge_misplaced` is right by the law of the first range that is misplaced.
-- Assumes nothing.
use mathlib.Core.Path.{◌≡◌, ap, ◌∙◌}
use Prim.Native.Nat.{ℕ}
use native.Mathlib.Omega.{arith}
use Rattle.index.specs.First.{first}
use Rattle.sub_type.specs.Number.{end_in}
use Rattle.sub_type.proofs.Ends.{end_inside}
use Rattle.range_list.specs.Misplaced.{is_misplaced}
use Rattle.range_list.proofs.Judging.{none_misplaced, one_misplaced}
use borrow.Author.Rules.{rules}
use Rattle.range_list.proofs.judge_misplaced.Statement.{statement}
use Rattle.range_list.proofs.judge_misplaced.Tie as tie

-- the token found is the first, up to where the span ends among the tokens
first_is : (f : tie.After-first_misplaced-token) → (let s = f in
    f.first_misplaced-token.result ≡ first (is_misplaced s.args.classes.now s.args.values.now s.args.span.from) s.args.span.from (end_in s.args.classes.now s.args.span))
first_is f =
    let s = f in
    f.first_misplaced-token.ensures
    ∙ ap (λ (to : ℕ). first (is_misplaced s.args.classes.now s.args.values.now s.args.span.from) s.args.span.from to) f.end_in-to.ensures

end-in-requires : tie.Need-end_in-to-requires
end-in-requires c κs = search rules

first-misplaced-requires : tie.Need-first_misplaced-token-requires
first-misplaced-requires c κs =
    let s = c in
    omega (arith, c.end_in-to.ensures, end_inside s.args.classes.now s.args.span, s.requires)

misplaced-finding-requires : tie.Need-misplaced_finding-requires
misplaced-finding-requires c κs =
    let e = c in
    let s = e in
    omega (arith, c.if-token-to.true, e.end_in-to.ensures, end_inside s.args.classes.now s.args.span, s.requires)

returns : tie.Need-returns-then-token-to
returns c =
    let h = c in
    let s = h in
    one_misplaced s.args.classes.now s.args.values.now s.args.span _ (first_is h.before.before) (omega (arith, h.if-token-to.true, h.end_in-to.ensures)) _ c.misplaced_finding.ensures

returns-2 : tie.Need-returns
returns-2 c =
    let s = c in
    none_misplaced s.args.classes.now s.args.values.now s.args.span _ (first_is c.before) (omega (arith, c.if-token-to.false, c.end_in-to.ensures))

pub judge_misplaced_spec : {M : Type 1} → statement M
judge_misplaced_spec =
    tie.close
    (tie.spec
    end-in-requires
    first-misplaced-requires
    misplaced-finding-requires
    returns
    returns-2)
