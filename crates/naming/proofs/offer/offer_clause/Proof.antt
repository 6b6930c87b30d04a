-- `offer_clause` is right: it is the definition; past the last token no name stands, and no module has none.
-- Assumes nothing.
use mathlib.Core.Path.{◌≡◌, refl, sym, ap, ◌∙◌}
use mathlib.Core.Bool.{Bool, false}
use mathlib.Core.List.{[]}
use native.Mathlib.Omega.{arith}
use Rattle.index.specs.First.{first, first_of, any}
use Rattle.lexicon.specs.Word.{bytes, same}
use Rattle.token.specs.Cut.{meanings_in}
use Rattle.symbol.specs.Symbol.{modules, is_module}
use Rattle.scope.specs.Token.{spelled}
use Rattle.scope.proofs.Tokens.{starts_long, ends_long, said_counted, named_is}
use Rattle.scope.proofs.Imports.{no_name}
use Rattle.naming.proofs.offer.offer_clause.Statement.{statement}
use Rattle.naming.proofs.offer.offer_clause.Tie as tie

nameless : is_module [] ≡ false
unfolding is_module any first first_of modules same bytes
nameless = refl

abbrev start_of : tie.After-name_at-name → tie.Start
start_of n = n.before.before.before.before.before.before

-- what the comparison tells is said of what the token says
told : (c : tie.After-names_module) {b : Bool} → c.names_module.result ≡ b
    → (let s = start_of c.before in is_module (spelled (meanings_in s.args.text.now) s.args.at) ≡ b)
told c e =
    let n = c in
    let s = start_of n.before in
    ap is_module (named_is _ _ _ _ s.requires _ n.if-classes-at.false _ n.name_at-name.ensures).1 ∙ sym c.names_module.ensures ∙ e

returns : tie.Need-returns-then-classes-at
returns c =
    let s = c in
    rw (ap is_module (no_name (meanings_in s.args.text.now) s.args.at (omega (arith, c.if-classes-at.true, said_counted _ _ _ _ s.requires))) ∙ nameless)

name-at-requires : tie.Need-name_at-name-requires
name-at-requires c κs =
    let s = c in
    (c.if-classes-at.false, omega (arith, c.if-classes-at.false, starts_long _ _ _ _ s.requires), omega (arith, c.if-classes-at.false, ends_long _ _ _ _ s.requires))

names-module-requires : tie.Need-names_module-requires
names-module-requires c κs =
    let s = start_of c in
    (named_is _ _ _ _ s.requires _ c.if-classes-at.false _ c.name_at-name.ensures).0

returns-2 : tie.Need-returns-then-names_module
returns-2 c = rw (told c.before c.if-names_module.true)

returns-3 : tie.Need-returns
returns-3 c = rw (told c.before c.if-names_module.false)

pub offer_clause_spec : {M : Type 1} → statement M
offer_clause_spec =
    tie.close (tie.spec
    returns
    name-at-requires
    names-module-requires
    returns-2
    returns-3)
