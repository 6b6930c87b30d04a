-- `collect_names` lays one name after the other: those laid before stay.
-- Assumes nothing.
use mathlib.Core.Path.{◌≡◌, refl, ap, ◌∙◌}
use Prim.Native.Nat.{ℕ, ◌+◌, ◌-◌, ◌*◌, ◌<◌}
use native.Mathlib.Omega.{arith}
use borrow.Author.Rules.{rules}
use lib.ListN.{length, get_or, length-set}
use Rattle.token.specs.Cut.{meanings_in}
use Rattle.definition.specs.Landmark.{definitions}
use Rattle.module_table.specs.declared.Definition.{Definition}
use Rattle.scope.specs.Token.{classes_of, spelled}
use Rattle.scope.specs.Tag.{name_tag}
use Rattle.scope.proofs.Tags.{Laid, laid_none, laid_next, laid_all}
use Rattle.scope.proofs.Tokens.{placed, placed_name, few_classes}
use Rattle.scope.proofs.Leads.{name_inside, name_named, defined_counted, name_read}
use Rattle.scope.proofs.name_table.collect_names.Statement.{statement}
use Rattle.scope.proofs.name_table.collect_names.Tie as tie

abbrev invariant-loop : tie.invariant-loop-k
invariant-loop text starts ends definitions names₀ count k₀ names k = Laid (meanings_in text) k names × (length names ≡ length names₀)

abbrev decreases-loop : tie.decreases-loop-k
decreases-loop text starts ends definitions names₀ count k₀ names k = count - k

abbrev start_of : tie.At-loop-k invariant-loop decreases-loop → tie.Start invariant-loop decreases-loop
start_of l = l.before.before.before.before.before.before.before

-- there are as many definitions as the code counts, and words for each
all : (l : tie.At-loop-k invariant-loop decreases-loop) → l.count-count.result ≡ length (definitions (classes_of (meanings_in (start_of l).args.text.now)))
all l = l.count-count.ensures ∙ defined_counted _ _ (start_of l).requires.1.0

abbrev token_of : tie.At-loop-k invariant-loop decreases-loop → ℕ
token_of l = get_or (definitions (classes_of (meanings_in (start_of l).args.text.now))) l.loop-k.k 0

module _ (c : tie.After-definition_at-d invariant-loop decreases-loop) where
  below : c.loop-k.k < length (definitions (classes_of (meanings_in (start_of c.before.before).args.text.now)))
  below = omega (arith, c.loop-k-test.true, all c.before.before)

  inside : token_of c.before.before < length (classes_of (meanings_in (start_of c.before.before).args.text.now))
  inside = name_inside _ _ below

  token_is : c.definition_at-d.result.name.0 ≡ token_of c.before.before
  token_is = ap (λ (d : Definition). d.name.0) c.definition_at-d.ensures ∙ name_read _ _ (start_of c.before.before).requires.1.0 _ below

  few : token_of c.before.before < 65536
  few = omega (arith, inside, few_classes _ _ _ _ (start_of c.before.before).requires.0)

  room : c.loop-k.k * 2 + 1 < length c.loop-k.names
  room =
      let l = c in
      let s = start_of l.before.before in
      omega (arith, below, l.loop-k.invariant.1, s.requires.1.1.0, defined_counted _ _ s.requires.1.0)

  early : c.loop-k.k < 512
  early = let s = start_of c.before.before in omega (arith, below, s.requires.1.1.1, defined_counted _ _ s.requires.1.0)

tag_is : (a : tie.After-tag_at invariant-loop decreases-loop) → a.tag_at.result ≡ name_tag (spelled (meanings_in (start_of a.before.before.before).args.text.now) (token_of a.before.before.before))
tag_is a =
    let s = start_of a.before.before.before in
    rw (placed_name _ _ _ _ s.requires.0 _ (inside a.before) (name_named _ _ (below a.before)), ← token_is a.before) a.tag_at.ensures

count-requires : tie.Need-count-count-requires invariant-loop decreases-loop
count-requires c κs = search rules

loop-holds : tie.Need-loop-k-init invariant-loop decreases-loop
loop-holds c = (laid_none _ _, refl)

definition-at-requires : tie.Need-definition_at-d-requires invariant-loop decreases-loop
definition-at-requires c κs = search rules

tag-at-requires : tie.Need-tag_at-requires invariant-loop decreases-loop
tag-at-requires c κs = rw (token_is c) (placed _ _ _ _ (start_of c.before.before).requires.0 _ (inside c))

mul-names : tie.Need-overflow_mul-names invariant-loop decreases-loop
mul-names c = omega (arith, early c.before)

mul-names-2 : tie.Need-offset_bounds-names-k invariant-loop decreases-loop
mul-names-2 c = omega (arith, early c.before)

slice-write-names : tie.Need-bounds-names-k invariant-loop decreases-loop
slice-write-names c = omega (arith, room c.before)

cast-names : tie.Need-overflow_cast-names invariant-loop decreases-loop
cast-names c = omega (arith, token_is c.before, few c.before)

mul-names-3 : tie.Need-overflow_mul-names-in-loop-k invariant-loop decreases-loop
mul-names-3 c = omega (arith, early c.before)

add-names : tie.Need-overflow_add-names invariant-loop decreases-loop
add-names c = omega (arith, early c.before)

mul-names-4 : tie.Need-offset_bounds-names-k-in-loop-k invariant-loop decreases-loop
mul-names-4 c = omega (arith, early c.before)

slice-write-names-2 : tie.Need-bounds-names-k-in-loop-k invariant-loop decreases-loop
slice-write-names-2 c = omega (arith, room c.before, length-set c.loop-k.names (c.loop-k.k * 2) c.tag_at.result)

add-k : tie.Need-overflow_add-k invariant-loop decreases-loop
add-k c = omega (arith, room c.before)

loop-less : tie.Need-loop-k-smaller invariant-loop decreases-loop
loop-less c = omega (arith, c.loop-k-test.true)

loop-again : tie.Need-loop-k-preserved invariant-loop decreases-loop
loop-again c =
    let l = c in (
      laid_next _ _ _ _ _ l.loop-k.invariant.0 (room c.before) (tag_is c) (token_is c.before),
      (simp length-set) ∙ l.loop-k.invariant.1,
    )

same_length : tie.Need-shape_of-names invariant-loop decreases-loop
same_length c = c.loop-k.invariant.1

returns : tie.Need-returns invariant-loop decreases-loop
returns c =
    let l = c in
    let s = start_of l.before in
    laid_all _ _ _ (l.loop-k.invariant.1 ∙ s.requires.1.1.0 ∙ ap (λ (n : ℕ). n * 2) (defined_counted _ _ s.requires.1.0)) (omega (arith, c.loop-k-test.false, all l.before)) l.loop-k.invariant.0

pub collect_names_spec : {M : Type 1} → statement M
collect_names_spec =
    tie.close
    (tie.spec
    invariant-loop
    decreases-loop
    count-requires
    loop-holds
    definition-at-requires
    tag-at-requires
    mul-names
    mul-names-2
    slice-write-names
    cast-names
    mul-names-3
    add-names
    mul-names-4
    slice-write-names-2
    add-k
    loop-less
    loop-again
    same_length
    returns)
