-- `admit_number` is right: a token that is no label is left out, and the number of a label is looked for in the tree.
-- Assumes nothing.
use mathlib.Core.Path.{◌≡◌, refl, sym, ap, ◌∙◌}
use Rattle.index.proofs.Search.{true_false}
use Rattle.definition.specs.Landmark.{is_lower}
use Rattle.definition.specs.Members.{is_name}
use Rattle.enumeration.proofs.Placing.{ready_skip, number_found, number_none, number_outside}
use borrow.Author.Rules.{rules}
use Rattle.enumeration.proofs.item.admit_number.Statement.{statement}
use Rattle.enumeration.proofs.item.admit_number.Tie as tie

abbrev start_of : tie.After-is_lower → tie.Start
start_of n = n.before.before.before.before.before

-- whether the token is a label
named : (n : tie.After-is_lower) → n.is_lower.result ≡ is_name (start_of n).args.classes.now (start_of n).args.item.token
named n = n.is_lower.ensures ∙ ap is_lower n.class_at.ensures

class-at-requires : tie.Need-class_at-requires
class-at-requires c κs = search rules

is-lower-requires : tie.Need-is_lower-requires
is-lower-requires c κs = search rules

add-is-outside : tie.Need-overflow_add-item
add-is-outside c = search rules

is-outside-requires : tie.Need-is_outside-requires
is-outside-requires c κs = search rules

returns : tie.Need-returns-then-is_outside
returns c =
    let n = c in
    let s = start_of n.before.before.before.before in
    (refl, record { is = number_outside s.args.classes.now s.args.values.now s.args.limits _ _ (sym (named n.before.before.before.before) ∙ c.if-is_lower.true) (sym c.is_outside.ensures ∙ c.if-is_outside.true); ready = λ e. absurd (true_false refl e) })

place-number-requires : tie.Need-place_number-requires
place-number-requires c κs =
    let n = c in
    let s = start_of n.before.before.before.before.before in
    (s.requires.0, (s.requires.1, sym (named n.before.before.before.before.before) ∙ c.if-is_lower.true))

same_length : tie.Need-shape_of-links-then-is_lower
same_length c = search rules

returns-2 : tie.Need-returns-then-is_lower
returns-2 c =
    let p = c in
    let o = p in
    let n = o in
    let s = start_of n.before.before.before.before.before.before.before.before in
    let told = p.place_number.ensures.1 in
    (p.place_number.ensures.0, record { is = number_found s.args.classes.now s.args.values.now s.args.limits _ _ _ (sym (named n.before.before.before.before.before.before.before.before) ∙ o.if-is_lower.true) (sym o.is_outside.ensures ∙ o.if-is_outside.false) told.is; ready = told.ready })

returns-3 : tie.Need-returns
returns-3 c =
    let n = c in
    let s = start_of n.before in
    let name = sym (named n.before) ∙ c.if-is_lower.false in
    (refl, record { is = number_none s.args.classes.now s.args.values.now s.args.limits _ _ name; ready = λ e. ready_skip _ _ _ _ _ s.requires.0 name })

pub admit_number_spec : {M : Type 1} → statement M
admit_number_spec =
    tie.close
    (tie.spec
    class-at-requires
    is-lower-requires
    add-is-outside
    is-outside-requires
    returns
    place-number-requires
    same_length
    returns-2
    returns-3)
