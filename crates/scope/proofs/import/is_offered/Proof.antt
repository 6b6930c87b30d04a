-- `is_offered` is right because the symbol's module is looked up as the definition says; past the last token no name stands.
-- Assumes nothing.
use mathlib.Core.Path.{◌≡◌}
use mathlib.Core.List.{List}
use Prim.Native.Nat.{ℕ}
use native.Mathlib.Omega.{arith}
use Rattle.token.specs.Token.{Meaning}
use Rattle.token.specs.Cut.{meanings_in}
use Rattle.scope.specs.Token.{classes_of}
use Rattle.scope.specs.Import.{source}
use Rattle.scope.proofs.Tokens.{classes_are, starts_long, ends_long, said_counted, few_classes, named_is}
use Rattle.scope.proofs.Imports.{no_symbol_offered, module_offered, no_module_offered}
use Rattle.scope.proofs.import.is_offered.Statement.{statement}
use Rattle.scope.proofs.import.is_offered.Tie as tie

abbrev said_by : tie.Start → List Meaning
said_by s = meanings_in s.args.text.now

-- what stands behind the next FROM is the symbol's module
behind : (s : tie.Start) (at : ℕ) → at ≡ source s.args.classes.now s.args.i.0 → at ≡ source (classes_of (said_by s)) s.args.i.0
behind s at is = rw (← classes_are _ _ _ _ s.requires.0) is

returns : tie.Need-returns-then-k-ge-SYMBOLS
returns c =
    let s = c in
    no_symbol_offered (said_by s.before.before.before.before.before) s.args.i.0 _ s.requires.1.1 c.if-k-ge-SYMBOLS.true

source-requires : tie.Need-source-module-requires
source-requires c κs =
    let s = c in
    (few_classes _ _ _ _ s.requires.0, omega (arith, s.requires.1.0))

returns-2 : tie.Need-returns-then-classes-module
returns-2 c =
    let s = c in
    no_module_offered (said_by s.before.before.before.before.before.before.before) s.args.i.0 _ s.requires.1.1 c.if-k-ge-SYMBOLS.false
    _ (behind s.before.before.before.before.before.before.before _ c.source-module.ensures) (omega (arith, c.if-classes-module.true, said_counted _ _ _ _ s.requires.0))

name-at-requires : tie.Need-name_at-name-requires
name-at-requires c κs =
    let s = c in
    (c.if-classes-module.false, omega (arith, c.if-classes-module.false, starts_long _ _ _ _ s.requires.0), omega (arith, c.if-classes-module.false, ends_long _ _ _ _ s.requires.0))

names-source-requires : tie.Need-names_source-requires
names-source-requires c κs =
    let s = c in
    ((named_is _ _ _ _ s.requires.0 _ c.if-classes-module.false _ c.name_at-name.ensures).0, c.if-k-ge-SYMBOLS.false)

returns-3 : tie.Need-returns
returns-3 c =
    let s = c in
    let name = (named_is _ _ _ _ s.requires.0 _ c.if-classes-module.false _ c.name_at-name.ensures).1 in
    module_offered (said_by s.before.before.before.before.before.before.before.before.before) s.args.i.0 _ s.requires.1.1 c.if-k-ge-SYMBOLS.false
    _ (behind s.before.before.before.before.before.before.before.before.before _ c.source-module.ensures) _ (rw name c.names_source.ensures)

pub is_offered_spec : {M : Type 1} → statement M
is_offered_spec =
    tie.close
    (tie.spec
    returns
    source-requires
    returns-2
    name-at-requires
    names-source-requires
    returns-3)
