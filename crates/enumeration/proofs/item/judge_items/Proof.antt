-- `judge_items` is right: the first item that breaks the rule is the first of two kinds.
-- Assumes nothing.
use Rattle.enumeration.proofs.Items.{broken_first, items_kept, items_broken}
use Rattle.sub_type.proofs.Ends.{end_inside}
use Rattle.enumeration.specs.Item.{spelling_in, item_clause}
use Rattle.sub_type.specs.Number.{end_in}
use Rattle.index.specs.First.{first}
use lib.Dec.{ltb}
use native.Mathlib.Omega.{arith}
use Prim.Native.Nat.{ℕ, ◌≤◌}
use mathlib.Core.Path.{◌≡◌, ap, ◌∙◌}
use borrow.Author.Rules.{rules}
use Rattle.enumeration.proofs.item.judge_items.Statement.{statement}
use Rattle.enumeration.proofs.item.judge_items.Tie as tie

abbrev start_of : tie.After-end_in-to → tie.Start
start_of e = e.before.before.before.before.before.before.before

few : (e : tie.After-end_in-to) → e.end_in-to.result ≤ 65536
few e =
    let s = start_of e in
    omega (arith, e.end_in-to.ensures, end_inside s.args.classes.now s.args.items.span, s.requires)

-- the token is the first that breaks the rule
token_is : (l : tie.After-lesser-token)
    → (let s = start_of l.before.before.before in
    l.lesser-token.result
    ≡ first (λ (i : ℕ). ltb 0 (item_clause (spelling_in s.args.text.now s.args.starts.now s.args.ends.now) s.args.classes.now s.args.values.now s.args.items.limits s.args.items.span.from i)) s.args.items.span.from (end_in s.args.classes.now s.args.items.span))
token_is l =
    let n = l in
    let b = n in
    let e = b in
    let s = start_of e.before.before.before in
    l.lesser-token.ensures
    ∙ rw (b.first_label_again-label.ensures, n.first_number_misfit-number.ensures) (broken_first (spelling_in s.args.text.now s.args.starts.now s.args.ends.now) s.args.classes.now s.args.values.now s.args.items.limits s.args.items.span.from e.end_in-to.result)
    ∙ ap (first (λ (i : ℕ). ltb 0 (item_clause (spelling_in s.args.text.now s.args.starts.now s.args.ends.now) s.args.classes.now s.args.values.now s.args.items.limits s.args.items.span.from i)) s.args.items.span.from) e.end_in-to.ensures

end-in-requires : tie.Need-end_in-to-requires
end-in-requires c κs = search rules

first-label-again-requires : tie.Need-first_label_again-label-requires
first-label-again-requires c κs = few c

first-number-misfit-requires : tie.Need-first_number_misfit-number-requires
first-number-misfit-requires c κs = few c.before

lesser-requires : tie.Need-lesser-token-requires
lesser-requires c κs = search rules

first-same-label-requires : tie.Need-first_same_label-same_label-requires
first-same-label-requires c κs = search rules

first-same-number-requires : tie.Need-first_same_number-same_number-requires
first-same-number-requires c κs = omega (arith, c.if-token-to.true, few c.before.before.before.before.before)

item-clause-requires : tie.Need-item_clause-requires
item-clause-requires c κs = search rules

item-other-requires : tie.Need-item_other-requires
item-other-requires c κs = search rules

returns : tie.Need-returns-then-token-to
returns c =
    let number = c in
    let label = number in
    let l = label in
    let e = l in
    let s = start_of e.before.before.before.before.before.before.before.before in
    items_broken (spelling_in s.args.text.now s.args.starts.now s.args.ends.now) s.args.classes.now s.args.values.now s.args.items.limits s.args.items.span _ (token_is l.before.before.before.before.before) (omega (arith, label.if-token-to.true, e.end_in-to.ensures)) _ _ _ _
    label.first_same_label-same_label.ensures number.first_same_number-same_number.ensures c.item_clause.ensures c.item_other.ensures

returns-2 : tie.Need-returns
returns-2 c =
    let l = c in
    let e = l in
    let s = start_of e.before.before.before.before in
    items_kept (spelling_in s.args.text.now s.args.starts.now s.args.ends.now) s.args.classes.now s.args.values.now s.args.items.limits s.args.items.span _ (token_is l.before) (omega (arith, c.if-token-to.false, e.end_in-to.ensures))

pub judge_items_spec : {M : Type 1} → statement M
judge_items_spec =
    tie.close
    (tie.spec
    end-in-requires
    first-label-again-requires
    first-number-misfit-requires
    lesser-requires
    first-same-label-requires
    first-same-number-requires
    item-clause-requires
    item-other-requires
    returns
    returns-2)
