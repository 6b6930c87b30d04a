-- `admit_label` is right: a token that is no label is left out, and a label is looked for in the tree.
-- Assumes nothing.
use mathlib.Core.Path.{◌≡◌, refl, sym, ap, ◌∙◌}
use Rattle.definition.specs.Landmark.{is_lower}
use Rattle.definition.specs.Members.{is_name}
use Rattle.enumeration.specs.Item.{spelling_in}
use Rattle.enumeration.proofs.Placing.{ready_skip, label_found, label_none}
use borrow.Author.Rules.{rules}
use Rattle.enumeration.proofs.item.admit_label.Statement.{statement}
use Rattle.enumeration.proofs.item.admit_label.Tie as tie

abbrev start_of : tie.After-is_lower → tie.Start
start_of n = n.before.before.before.before.before.before.before

-- whether the token is a label
named : (n : tie.After-is_lower) → n.is_lower.result ≡ is_name (start_of n).args.classes.now (start_of n).args.item.token
named n = n.is_lower.ensures ∙ ap is_lower n.class_at.ensures

class-at-requires : tie.Need-class_at-requires
class-at-requires c κs = search rules

is-lower-requires : tie.Need-is_lower-requires
is-lower-requires c κs = search rules

place-label-requires : tie.Need-place_label-requires
place-label-requires c κs =
    let n = c in
    let s = start_of n.before.before in
    (s.requires.0, (s.requires.1, sym (named n.before.before) ∙ c.if-is_lower.true))

same_length : tie.Need-shape_of-links-then-is_lower
same_length c = search rules

returns : tie.Need-returns-then-is_lower
returns c =
    let p = c in
    let n = p in
    let s = start_of n.before.before.before.before.before in
    let told = p.place_label.ensures.1 in
    (p.place_label.ensures.0, record { is = label_found (spelling_in s.args.text.now s.args.starts.now s.args.ends.now) s.args.classes.now _ _ _ (sym (named n.before.before.before.before.before) ∙ p.if-is_lower.true) told.is; ready = told.ready })

returns-2 : tie.Need-returns
returns-2 c =
    let n = c in
    let s = start_of n.before in
    let name = sym (named n.before) ∙ c.if-is_lower.false in
    (refl, record { is = label_none (spelling_in s.args.text.now s.args.starts.now s.args.ends.now) s.args.classes.now _ _ name; ready = λ e. ready_skip _ _ _ _ _ s.requires.0 name })

pub admit_label_spec : {M : Type 1} → statement M
admit_label_spec =
    tie.close
    (tie.spec
    class-at-requires
    is-lower-requires
    place-label-requires
    same_length
    returns
    returns-2)
