-- `range_test` is right: it is the definition, demand by demand.
-- Assumes nothing.
use Rattle.syntax_check.specs.Refusal.{restriction_of, place_test, limit_test, range_test}
use mathlib.Core.Path.{ap, ◌∙◌}
use borrow.Author.Rules.{rules}
use Rattle.syntax_check.proofs.test.range_test.Statement.{statement}
use Rattle.syntax_check.proofs.test.range_test.Tie as tie

has-syntax-requires : tie.Need-has_syntax-has-requires
has-syntax-requires c κs = search rules

syntax-in-requires : tie.Need-syntax_in-requires
syntax-in-requires c κs = search rules

restriction-of-requires : tie.Need-restriction_of-restriction-requires
restriction-of-requires c κs = search rules

enum_told : tie.Need-enum_told-1
enum_told c = search rules

enum-told-2 : tie.Need-enum_told-in_default
enum-told-2 c = search rules

is-untested-requires : tie.Need-is_untested-requires
is-untested-requires c κs = search rules

limit-test-requires : tie.Need-limit_test-requires
limit-test-requires c κs = search rules

returns : tie.Need-returns-then-has-is_untested
unfolding range_test
returns c =
    let un = c in
    let r = un in
    let s = r in
    rw (un.in_default.is, ← r.has_syntax-has.ensures, ← un.is_untested.ensures)
    (simp c.if-has-is_untested.true
    (c.limit_test.ensures ∙ ap (limit_test s.args.d.class) (r.restriction_of-restriction.ensures ∙ ap restriction_of r.syntax_in.ensures)))

returns-2 : tie.Need-returns-in_default
unfolding range_test
returns-2 c =
    let un = c in
    let r = un in
    rw (un.in_default.is, ← r.has_syntax-has.ensures, ← un.is_untested.ensures) (simp c.if-has-is_untested.false)

place-test-requires : tie.Need-place_test-requires
place-test-requires c κs = search rules

returns-3 : tie.Need-returns-then-has
unfolding range_test
returns-3 c =
    let told = c in
    let r = told in
    rw (told.in-Places.is, ← r.has_syntax-has.ensures)
    (simp c.if-has.true
    (c.place_test.ensures ∙ ap place_test (r.restriction_of-restriction.ensures ∙ ap restriction_of r.syntax_in.ensures)))

returns-4 : tie.Need-returns
unfolding range_test
returns-4 c =
    let told = c in
    let r = told in
    rw (told.in-Places.is, ← r.has_syntax-has.ensures) (simp c.if-has.false)

pub range_test_spec : {M : Type 1} → statement M
range_test_spec =
    tie.close
    (tie.spec
    has-syntax-requires
    syntax-in-requires
    restriction-of-requires
    enum_told
    enum-told-2
    is-untested-requires
    limit-test-requires
    returns
    returns-2
    place-test-requires
    returns-3
    returns-4)
