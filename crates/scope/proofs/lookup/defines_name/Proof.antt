-- `defines_name` is right because the words have each definition's name, and names of different tags differ.
-- Assumes nothing.
use mathlib.Core.Path.{◌≡◌, sym, ◌∙◌}
use mathlib.Core.Bool.{true}
use Prim.Native.Nat.{ℕ, ◌<◌}
use lib.ListN.{length, get_or}
use Rattle.lexicon.specs.Word.{is_name}
use Rattle.token.specs.Cut.{meanings_in}
use Rattle.definition.specs.Landmark.{class_at, definitions}
use Rattle.scope.specs.Token.{classes_of}
use Rattle.scope.proofs.Tags.{other_tag}
use Rattle.scope.proofs.Tokens.{placed}
use Rattle.scope.proofs.Leads.{compared, name_inside, name_named}
use borrow.Author.Rules.{rules}
use Rattle.scope.proofs.lookup.defines_name.Statement.{statement}
use Rattle.scope.proofs.lookup.defines_name.Tie as tie

abbrev name_of : tie.Start → ℕ
name_of s = get_or (definitions (classes_of (meanings_in s.args.text.now))) s.args.k.0 0

inside : (s : tie.Start) → name_of s < length (classes_of (meanings_in s.args.text.now))
inside s = name_inside _ _ s.requires.1.1.0

named : (s : tie.Start) → is_name (class_at (classes_of (meanings_in s.args.text.now)) (name_of s)) ≡ true
named s = name_named _ _ s.requires.1.1.0

abbrev start_of : tie.After-wide → tie.Start
start_of c = c.before.before.before.before.before.before.before.before.before.before.before

-- the token that was read is the definition's name
token_is : (c : tie.After-wide) → c.wide.result ≡ name_of (start_of c)
token_is c = let s = start_of c in c.wide.ensures ∙ s.requires.1.0.token _ s.requires.1.1.0

mul_at : tie.Need-overflow_mul-at
mul_at c = search rules

mul-if1 : tie.Need-offset_bounds-names-at
mul-if1 c = search rules

shared-slice-read-if1 : tie.Need-bounds-names-at
shared-slice-read-if1 c = search rules

returns : tie.Need-returns-then-names-at
returns c =
    let s = c in
    other_tag _ _ (λ e. c.if-names-at.true (s.requires.1.0.tag _ s.requires.1.1.0 ∙ e ∙ sym s.requires.1.1.1.tagged))

add_wide : tie.Need-overflow_add-at
add_wide c = search rules

mul_wide : tie.Need-offset_bounds-names-at-2
mul_wide c = search rules

shared-slice-read-wide : tie.Need-bounds-names-at-2
shared-slice-read-wide c = search rules

wide-requires : tie.Need-wide-requires
wide-requires c κs = search rules

is-named-requires : tie.Need-is_named-requires
is-named-requires c κs =
    let s = start_of c in
    (rw (token_is c) (placed _ _ _ _ s.requires.0 _ (inside s)), s.requires.1.1.1.within)

returns-2 : tie.Need-returns
returns-2 c =
    let s = start_of c.before in
    compared _ _ _ s.requires.0 _ (inside s) (named s) _ _ (rw (token_is c.before) at c.is_named.ensures)

pub defines_name_spec : {M : Type 1} → statement M
defines_name_spec =
    tie.close
    (tie.spec
    mul_at
    mul-if1
    shared-slice-read-if1
    returns
    add_wide
    mul_wide
    shared-slice-read-wide
    wide-requires
    is-named-requires
    returns-2)
