-- `offer_at` is right because the symbol and its module are asked as the definition says.
-- Assumes nothing.
use mathlib.Core.Path.{◌≡◌, sym, ap, ◌∙◌}
use mathlib.Core.Bool.{Bool}
use mathlib.Core.List.{List}
use Prim.Native.Nat.{ℕ}
use native.Mathlib.Omega.{arith}
use Rattle.token.specs.Cut.{meanings_in}
use Rattle.symbol.specs.Symbol.{symbol_of}
use Rattle.scope.specs.Token.{classes_of, spelled}
use Rattle.scope.specs.Import.{is_import}
use Rattle.scope.proofs.Tokens.{classes_are, starts_long, ends_long, named_is}
use Rattle.scope.proofs.Leads.{small}
use Rattle.naming.proofs.Offering.{no_import_offer, missing_offer, word_offer}
use borrow.Author.Rules.{rules}
use Rattle.naming.proofs.offer.offer_at.Statement.{statement}
use Rattle.naming.proofs.offer.offer_at.Tie as tie

-- what the test tells is said of what the tokens say
own : (s : tie.Start) {r b : Bool} → r ≡ is_import s.args.classes.now s.args.i → r ≡ b → is_import (classes_of (meanings_in s.args.text.now)) s.args.i ≡ b
own s e q = ap (λ (cs : List ℕ). is_import cs s.args.i) (sym (classes_are _ _ _ _ s.requires.0)) ∙ sym e ∙ q

abbrev start_of : tie.After-symbol_named-k → tie.Start
start_of c = c.before.before.before.before.before.before.before.before

symbol_is : (c : tie.After-symbol_named-k) → c.symbol_named-k.result ≡ symbol_of (spelled (meanings_in (start_of c).args.text.now) (start_of c).args.i)
symbol_is c =
    let s = start_of c in
    c.symbol_named-k.ensures ∙ ap symbol_of (sym (named_is _ _ _ _ s.requires.0 _ s.requires.1.1 _ c.name_at-name.ensures).1)

is-import-requires : tie.Need-is_import-requires
is-import-requires c κs = search rules

returns : tie.Need-returns-then-not-is_import
returns c =
    let s = c in
    no_import_offer (meanings_in s.args.text.now) s.args.i (own s.before.before.before.before.before.before c.is_import.ensures c.if-not-is_import.true)

name-at-requires : tie.Need-name_at-name-requires
name-at-requires c κs =
    let s = c in
    (s.requires.1.1, omega (arith, s.requires.1.1, starts_long _ _ _ _ s.requires.0), omega (arith, s.requires.1.1, ends_long _ _ _ _ s.requires.0))

symbol-named-requires : tie.Need-symbol_named-k-requires
symbol-named-requires c κs =
    let s = c in
    (named_is _ _ _ _ s.requires.0 _ s.requires.1.1 _ c.name_at-name.ensures).0

is-offered-requires : tie.Need-is_offered-requires
is-offered-requires c κs =
    let s = c in
    (s.requires.0, (s.requires.1.1, symbol_is c))

returns-2 : tie.Need-returns-then-not-is_offered
returns-2 c =
    let s = c in
    missing_offer (meanings_in s.args.text.now) s.args.i (own s.before.before.before.before.before.before.before.before.before.before c.is_import.ensures c.if-not-is_import.false) (sym c.is_offered.ensures ∙ c.if-not-is_offered.true)

word-for-requires : tie.Need-word_for-requires
word-for-requires c κs = rw c.symbol_named-k.ensures (small (meanings_in (start_of c.before.before).args.text.now) _)

returns-3 : tie.Need-returns
returns-3 c =
    let e = c in
    let s = e in
    word_offer (meanings_in s.args.text.now) s.args.i (own s.before.before.before.before.before.before.before.before.before.before.before e.is_import.ensures e.if-not-is_import.false) (sym e.is_offered.ensures ∙ e.if-not-is_offered.false)
    _ (symbol_is e.before.before.before) _ c.word_for.ensures

pub offer_at_spec : {M : Type 1} → statement M
offer_at_spec =
    tie.close
    (tie.spec
    is-import-requires
    returns
    name-at-requires
    symbol-named-requires
    is-offered-requires
    returns-2
    word-for-requires
    returns-3)
