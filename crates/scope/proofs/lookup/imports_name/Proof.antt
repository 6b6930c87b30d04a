-- `imports_name` is right because a value of 0 is no symbol's, and any other is one's.
-- Assumes nothing.
use mathlib.Core.Path.{◌≡◌, sym, ◌∙◌}
use mathlib.Core.Bool.{true}
use Rattle.token.specs.Cut.{meanings_in}
use Rattle.name_tree.proofs.Both.{not_first}
use Rattle.scope.specs.Token.{classes_of}
use Rattle.scope.specs.Import.{is_import}
use Rattle.scope.proofs.Leads.{no_import, some_import, import_placed, import_compared}
use Rattle.scope.proofs.lookup.imports_name.Statement.{statement}
use Rattle.scope.proofs.lookup.imports_name.Tie as tie

own : (s : tie.Start) → (s.args.value ≡ 0 → ⊥) → is_import (classes_of (meanings_in s.args.text.now)) s.args.i ≡ true
own s some = some_import (meanings_in s.args.text.now) s.args.i (λ e. some (s.requires.1.0 ∙ e))

returns : tie.Need-returns-then-value-eq0
returns c =
    let s = c in
    sym (not_first _ _ (no_import (meanings_in s.args.text.now) s.args.i (sym s.requires.1.0 ∙ c.if-value-eq0.true)))

is-named-requires : tie.Need-is_named-requires
is-named-requires c κs =
    let s = c in
    (import_placed _ _ _ s.requires.0 _ (own s.before.before.before.before c.if-value-eq0.false), s.requires.1.1)

returns-2 : tie.Need-returns
returns-2 c =
    let s = c in
    import_compared _ _ _ s.requires.0 _ (own s.before.before.before.before.before c.if-value-eq0.false) _ _ c.is_named.ensures

pub imports_name_spec : {M : Type 1} → statement M
imports_name_spec = tie.close (tie.spec
    returns
    is-named-requires
    returns-2)
