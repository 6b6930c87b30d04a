-- `fields_of` is right: each field is what its own function answers.
-- Assumes nothing.
use mathlib.Core.Path.{◌≡◌}
use lib.ListN.{take, get_or}
use Rattle.definition.specs.declared.Fields.{Fields}
use Prim.Native.Nat.{ℕ, ◌<◌}
use native.Mathlib.Omega.{arith}
use Rattle.terminal.specs.Terminal.{terminals, assign, AUGMENTS, DEFVAL, INDEX, MAX-ACCESS, OBJECTS, SEQUENCE, STATUS, SYNTAX}
use Rattle.definition.specs.Fields.{find, columns_span, oid_span, fields_of}
use borrow.Author.Rules.{rules}
use Rattle.definition.proofs.field.fields_of.Statement.{statement}
use Rattle.definition.proofs.field.fields_of.Tie as tie

-- fields that are equal one by one are equal
fields_equal : (f g : Fields) → f.kind ≡ g.kind → f.status ≡ g.status → f.access ≡ g.access → f.syntax ≡ g.syntax
    → f.index ≡ g.index → f.augments ≡ g.augments → f.has_default ≡ g.has_default → f.objects ≡ g.objects
    → f.columns ≡ g.columns → f.oid ≡ g.oid → f ≡ g
fields_equal f g kind status access syntax index augments default objects columns oid = λ i.
    record {
      kind = kind i;
      status = status i;
      access = access i;
      syntax = syntax i;
      index = index i;
      augments = augments i;
      has_default = default i;
      objects = objects i;
      columns = columns i;
      oid = oid i;
    }

-- what is found first of each class
found : (f : tie.After-first_tokens-firsts) (class : ℕ) → class < terminals
    → get_or f.first_tokens-firsts.result class 0 ≡ find (take f.args.n f.args.classes.now) class f.args.d f.args.e
found f class h = f.first_tokens-firsts.ensures.first_is class h

first-tokens-requires : tie.Need-first_tokens-firsts-requires
first-tokens-requires c κs = search rules

kind-at-requires : tie.Need-kind_at-kind-requires
kind-at-requires c κs = search rules

array-read-word-at : tie.Need-bounds-firsts-53
array-read-word-at c = search rules

word-at-requires : tie.Need-word_at-status-requires
word-at-requires c κs = search rules

array-read-word-at-2 : tie.Need-bounds-firsts-39
array-read-word-at-2 c = search rules

word-at-requires-2 : tie.Need-word_at-access-requires
word-at-requires-2 c κs = search rules

array-read-syntax-behind : tie.Need-bounds-firsts-55
array-read-syntax-behind c = search rules

syntax-behind-requires : tie.Need-syntax_behind-syntax-requires
syntax-behind-requires c κs = search rules

array-read-braced-at : tie.Need-bounds-firsts-36
array-read-braced-at c = search rules

braced-at-requires : tie.Need-braced_at-index-requires
braced-at-requires c κs = search rules

array-read-braced-at-2 : tie.Need-bounds-firsts-23
array-read-braced-at-2 c = search rules

braced-at-requires-2 : tie.Need-braced_at-augments-requires
braced-at-requires-2 c κs = search rules

array-read-has-default : tie.Need-bounds-firsts-28
array-read-has-default c = search rules

array-read-braced-at-3 : tie.Need-bounds-firsts-45
array-read-braced-at-3 c = search rules

braced-at-requires-3 : tie.Need-braced_at-objects-requires
braced-at-requires-3 c κs = search rules

array-read-braced-if : tie.Need-bounds-firsts-51
array-read-braced-if c = search rules

braced-if-requires : tie.Need-braced_if-columns-requires
braced-if-requires c κs =
    let start = c.before.before.before.before.before.before.before.before.before in
    (start.requires.0, start.requires.1.1)

cast-has-oid : tie.Need-overflow_cast-kind
cast-has-oid c = search rules

has-oid-requires : tie.Need-has_oid-requires
has-oid-requires c κs = search rules

array-read-braced-if-2 : tie.Need-bounds-firsts-4
array-read-braced-if-2 c = search rules

braced-if-requires-2 : tie.Need-braced_if-oid-requires
braced-if-requires-2 c κs =
    let start = c.before.before.before.before.before.before.before.before.before.before.before in
    (start.requires.0, start.requires.1.1)

returns : tie.Need-returns
unfolding columns_span oid_span fields_of
returns c =
    let columns = c.before.before in
    let objects = columns.before in
    let augments = objects.before in
    let index = augments.before in
    let syntax = index.before in
    let access = syntax.before in
    let status = access.before in
    let kind = status.before in
    let f = kind.before in
    let start = f.before.before in
    fields_equal _ (fields_of (take start.args.n start.args.classes.now) start.args.d start.args.e)
    kind.kind_at-kind.ensures
    (rw (← found f STATUS (omega arith)) status.word_at-status.ensures)
    (rw (← found f MAX-ACCESS (omega arith)) access.word_at-access.ensures)
    (rw (← found f SYNTAX (omega arith)) syntax.syntax_behind-syntax.ensures)
    (rw (← found f INDEX (omega arith)) index.braced_at-index.ensures)
    (rw (← found f AUGMENTS (omega arith)) augments.braced_at-augments.ensures)
    (rw (← found f DEFVAL (omega arith)))
    (rw (← found f OBJECTS (omega arith)) objects.braced_at-objects.ensures)
    (rw (← found f SEQUENCE (omega arith), ← kind.kind_at-kind.ensures) columns.braced_if-columns.ensures)
    (rw (← found f assign (omega arith), ← kind.kind_at-kind.ensures, ← c.has_oid.ensures) c.braced_if-oid.ensures)

pub fields_of_spec : {M : Type 1} → statement M
fields_of_spec =
    tie.close
    (tie.spec
    first-tokens-requires
    kind-at-requires
    array-read-word-at
    word-at-requires
    array-read-word-at-2
    word-at-requires-2
    array-read-syntax-behind
    syntax-behind-requires
    array-read-braced-at
    braced-at-requires
    array-read-braced-at-2
    braced-at-requires-2
    array-read-has-default
    array-read-braced-at-3
    braced-at-requires-3
    array-read-braced-if
    braced-if-requires
    cast-has-oid
    has-oid-requires
    array-read-braced-if-2
    braced-if-requires-2
    returns)
