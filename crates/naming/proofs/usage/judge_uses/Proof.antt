-- `judge_uses` is right by the law of the loop that looks each use up.
-- Assumes nothing.
use mathlib.Core.Path.{◌≡◌, sym, ap, subst, ◌∙◌}
use mathlib.Core.Bool.{not, Bool, true}
use mathlib.Core.List.{List}
use Prim.Native.Nat.{ℕ, ◌-◌, ◌*◌, ◌≤◌, ◌<◌}
use native.Mathlib.Omega.{arith}
use lib.ListN.{length, take, length-append, length-set}
use lib.Seq.{take-length, length-take-le, take_at}
use Rattle.token.specs.Token.{Meaning}
use Rattle.token.specs.Cut.{meanings_in}
use Rattle.definition.specs.Landmark.{definitions}
use Rattle.module_table.specs.declared.Definition.{Definition}
use Rattle.module_table.specs.declared.Lead.{Lead}
use Rattle.module_table.specs.Definition.{definitions_in}
use Rattle.module_table.specs.Lead.{word_of, Small}
use Rattle.name_kind.specs.Need.{enclosing, need_at}
use Rattle.name_kind.specs.declared.need.Need.{Need}
use Rattle.outline.specs.Outline.{outline}
use Rattle.scope.specs.Token.{classes_of, spelled}
use Rattle.scope.specs.Import.{imports_end}
use Rattle.scope.specs.Lead.{leads_to}
use Rattle.scope.specs.Tag.{NamesHeld}
use Rattle.scope.specs.Held.{ImportsHeld}
use Rattle.scope.proofs.Tokens.{classes_are, said_counted, starts_long, ends_long, few_classes, held_said, named_is}
use Rattle.scope.proofs.Imports.{end_inside}
use Rattle.scope.proofs.Leads.{defined_counted}
use Rattle.name_kind.specs.Serve.{serves}
use Rattle.naming.specs.Values.{is_name_need}
use Rattle.naming.proofs.Served.{no_use_known, use_known}
use Rattle.naming.proofs.Using.{no_need, use_value, other_value, lead_small, Using, using_start, imports_still, using_next, using_broken, using_kept, using_end}
use Rattle.naming.proofs.usage.judge_uses.Statement.{statement}
use Rattle.naming.proofs.usage.judge_uses.Tie as tie
use Rattle.std.specs.Prelude.{Err}

abbrev invariant-loop : tie.invariant-loop-i
invariant-loop text classes starts ends values₀ definitions end size names word₀ recent₀ i₀ values word recent i =
    Using (meanings_in text) values₀ i values × (word ≡ enclosing (take (length classes) classes) i) × (length recent ≡ 64)

abbrev decreases-loop : tie.decreases-loop-i
decreases-loop text classes starts ends values₀ definitions end size names word₀ recent₀ i₀ values word recent i = length classes - i

abbrev start_of : tie.At-loop-i invariant-loop decreases-loop → tie.Start invariant-loop decreases-loop
start_of l = l.before.before.before.before.before.before.before.before.before.before.before.before.before.before.before

-- ---- the names of the definitions

counted_few : (n : tie.After-count-size invariant-loop decreases-loop) → n.count-size.result ≤ 512
counted_few n = omega (arith, n.count-size.ensures, n.requires.1.1.1.1.0)

-- there is room for them
lent : (n : tie.After-names-1 invariant-loop decreases-loop) → n.count-size.result * 2 ≤ length n.blank_names-names.result
lent n = omega (arith, counted_few n.before.before, n.blank_names-names.ensures)

-- as many words as were lent hold the names
size_of : (ms : List Meaning) (xs : List ℕ) → NamesHeld ms xs → (n : ℕ) → n ≡ length (definitions (classes_of ms)) → n * 2 ≡ length xs
size_of ms xs h n e = omega (arith, h.counted)

count_is : (a : tie.After-collect_names invariant-loop decreases-loop) → a.count-size.result ≡ length (definitions (classes_of (meanings_in a.args.text.now)))
count_is a = a.count-size.ensures ∙ defined_counted _ _ a.requires.1.1.1.0

-- ---- the loop

-- the imports end where the code says
end_is : (l : tie.At-loop-i invariant-loop decreases-loop) → l.imports_end-end.result ≡ imports_end (classes_of (meanings_in (start_of l).args.text.now))
end_is l = l.imports_end-end.ensures ∙ ap imports_end (classes_are _ _ _ _ (start_of l).requires.0)

end_in : (l : tie.At-loop-i invariant-loop decreases-loop) → l.imports_end-end.result ≤ length l.loop-i.values
end_in l =
    let s = start_of l in
    omega (arith, l.imports_end-end.ensures, end_inside s.args.classes.now, l.loop-i.invariant.0.long, s.requires.1.0)

-- and their values are held
imports_now : (l : tie.At-loop-i invariant-loop decreases-loop) → ImportsHeld (meanings_in (start_of l).args.text.now) (take l.imports_end-end.result l.loop-i.values)
imports_now l =
    let s = start_of l in
    let cs = classes_are _ _ _ _ s.requires.0 in
    subst (λ (n : ℕ). ImportsHeld (meanings_in s.args.text.now) (take n l.loop-i.values)) (sym (end_is l))
    (imports_still _ _ _ _ l.loop-i.invariant.0 (omega (arith, end_is l, end_in l, l.loop-i.invariant.0.long))
    (subst (λ (n : ℕ). ImportsHeld (meanings_in s.args.text.now) (take n s.args.values.now)) (ap imports_end cs) s.requires.1.1.0))

need_said : (s : tie.Start invariant-loop decreases-loop) (i : ℕ) {need : Need} → need ≡ need_at (take (length s.args.classes.now) s.args.classes.now) i
    → need ≡ need_at (classes_of (meanings_in s.args.text.now)) i
need_said s i e = e ∙ ap (λ (cs : List ℕ). need_at cs i) (take-length s.args.classes.now ∙ classes_are _ _ _ _ s.requires.0)

served : (s : tie.Start invariant-loop decreases-loop) (lead : Lead) (need : Need) {r : Bool} → r ≡ serves (definitions_in s.args.definitions.now) lead need
    → r ≡ serves (outline (classes_of (meanings_in s.args.text.now))) lead need
served s lead need e = e ∙ ap (λ (ds : List Definition). serves ds lead need) s.requires.1.1.1.0

-- where a use was looked up
abbrev Looked : Type 0
Looked = tie.After-leads_to-lead invariant-loop decreases-loop

abbrev loop_of : Looked → tie.At-loop-i invariant-loop decreases-loop
loop_of a = a.before.before.before.before.before.before.before.before.before

abbrev said_by : Looked → List Meaning
said_by a = meanings_in (start_of (loop_of a)).args.text.now

inside : (a : Looked) → (loop_of a).loop-i.i < length (said_by a)
inside a = omega (arith, a.loop-i-test.true, said_counted _ _ _ _ (start_of (loop_of a)).requires.0)

room : (a : Looked) → (loop_of a).loop-i.i < length (loop_of a).loop-i.values
room a =
    let l = loop_of a in
    omega (arith, a.loop-i-test.true, l.loop-i.invariant.0.long, (start_of l).requires.1.0)

need_is : (a : Looked) → a.need_at-need.result ≡ need_at (classes_of (said_by a)) (loop_of a).loop-i.i
need_is a = need_said (start_of (loop_of a)) _ a.need_at-need.ensures

used : (a : Looked) → is_name_need (need_at (classes_of (said_by a)) (loop_of a).loop-i.i) ≡ true
used a = sym (ap is_name_need (need_is a)) ∙ sym a.is_name_need.ensures ∙ a.if-is_name_need.true

lead_is : (a : Looked) → a.leads_to-lead.result ≡ leads_to (said_by a) (spelled (said_by a) (loop_of a).loop-i.i)
lead_is a =
    let s = start_of (loop_of a) in
    a.leads_to-lead.ensures
    ∙ ap (leads_to (said_by a)) (sym (named_is _ _ _ _ s.requires.0 _ a.loop-i-test.true _ a.name_at-name.ensures).1)

-- the slot of its name
slot_few : (a : Looked) → a.slot_of-slot.result < 64
slot_few a = a.slot_of-slot.ensures

imports-end-requires : tie.Need-imports_end-end-requires invariant-loop decreases-loop
imports-end-requires c κs = tt

count-requires : tie.Need-count-size-requires invariant-loop decreases-loop
count-requires c κs = tt

mul-size : tie.Need-overflow_mul-size invariant-loop decreases-loop
mul-size c = omega (arith, counted_few c)

blank-names-requires : tie.Need-blank_names-names-requires invariant-loop decreases-loop
blank-names-requires c κs = tt

array-borrow-prefix-names : tie.Need-slice_bounds-names-end invariant-loop decreases-loop
array-borrow-prefix-names c = omega (arith, counted_few c.before, c.blank_names-names.ensures)

slice-aggregate-collect-names : tie.Need-slice_bounds-collect_names-end invariant-loop decreases-loop
slice-aggregate-collect-names c = sym (length-take-le _ _ (lent c))

collect-names-requires : tie.Need-collect_names-requires invariant-loop decreases-loop
collect-names-requires c κs =
    let s = c in
    (held_said _ _ _ _ s.requires.0, (s.requires.1.1.1.0, (length-take-le _ _ (lent c) ∙ ap (λ (n : ℕ). n * 2) c.count-size.ensures, s.requires.1.1.1.1.0)))

enclosing-at-requires : tie.Need-enclosing_at-word-requires invariant-loop decreases-loop
enclosing-at-requires c κs = omega arith

blank-recent-requires : tie.Need-blank_recent-recent-requires invariant-loop decreases-loop
blank-recent-requires c κs = tt

loop-holds : tie.Need-loop-i-init invariant-loop decreases-loop
loop-holds c =
    let s = c in
    let is = c.imports_end-end.ensures ∙ ap imports_end (classes_are _ _ _ _ s.requires.0) in
    (using_start _ _ _ is (omega (arith, is, end_inside (classes_of (meanings_in s.args.text.now)), said_counted _ _ _ _ s.requires.0, ap length (classes_are _ _ _ _ s.requires.0))), c.enclosing_at-word.ensures, c.blank_recent-recent.ensures)

need-at-requires : tie.Need-need_at-need-requires invariant-loop decreases-loop
need-at-requires c κs = (omega arith, c.loop-i.invariant.1)

is-name-need-requires : tie.Need-is_name_need-requires invariant-loop decreases-loop
is-name-need-requires c κs = tt

name-at-requires : tie.Need-name_at-name-requires invariant-loop decreases-loop
name-at-requires c κs =
    let s = start_of c.before.before.before.before in
    let h = c.loop-i-test.true in
    (h, omega (arith, h, starts_long _ _ _ _ s.requires.0), omega (arith, h, ends_long _ _ _ _ s.requires.0))

name-tag-requires : tie.Need-name_tag-tag-requires invariant-loop decreases-loop
name-tag-requires c κs =
    let s = start_of c.before.before.before.before.before in
    (named_is _ _ _ _ s.requires.0 _ c.loop-i-test.true _ c.name_at-name.ensures).0

slot-of-requires : tie.Need-slot_of-slot-requires invariant-loop decreases-loop
slot-of-requires c κs = tt

mul-nearest : tie.Need-offset_bounds-recent-slot invariant-loop decreases-loop
mul-nearest c = omega (arith, c.slot_of-slot.ensures)

array-read-nearest : tie.Need-bounds-recent-slot invariant-loop decreases-loop
array-read-nearest c = omega (arith, c.slot_of-slot.ensures, c.loop-i.invariant.2)

slice-reshare-prefix-leads-to : tie.Need-slice_bounds-leads_to-end invariant-loop decreases-loop
slice-reshare-prefix-leads-to c = end_in c.before.before.before.before.before.before.before

slice-aggregate-leads-to : tie.Need-slice_bounds-leads_to-end-then-is_name_need invariant-loop decreases-loop
slice-aggregate-leads-to c = sym (length-take-le _ _ (end_in c.before.before.before.before.before.before.before))

array-share-prefix-names : tie.Need-slice_bounds-names-end-then-is_name_need invariant-loop decreases-loop
array-share-prefix-names c =
    let a = c in simp length-append (omega (arith, a.collect_names.ensures.counted, count_is a.before.before.before.before.before.before.before.before.before.before.before))

slice-aggregate-leads-to-2 : tie.Need-slice_bounds-leads_to-end-then-is_name_need-2 invariant-loop decreases-loop
slice-aggregate-leads-to-2 c = sym (length-take-le _ _ (array-share-prefix-names c.before))

leads-to-requires : tie.Need-leads_to-lead-requires invariant-loop decreases-loop
leads-to-requires c κs =
    let l = c in
    let s = start_of l.before.before.before.before.before.before.before.before in
    let h = c.loop-i-test.true in
    let n = named_is _ _ _ _ s.requires.0 _ h _ c.name_at-name.ensures in (
      record {
        tokens = held_said _ _ _ _ s.requires.0;
        imports = imports_now l.before.before.before.before.before.before.before.before;
        definitions = subst (NamesHeld (meanings_in s.args.text.now)) (sym (take_at _ _ _ (sym (size_of _ _ l.collect_names.ensures _ (count_is l.before.before.before.before.before.before.before.before.before.before.before.before))))) l.collect_names.ensures;
        distinct = s.requires.1.1.1.1.1;
      },
      record { within = n.0; tagged = c.name_tag-tag.ensures },
    )

serves-requires : tie.Need-serves-requires invariant-loop decreases-loop
serves-requires c κs = tt

unfit-finding-requires : tie.Need-unfit_finding-requires invariant-loop decreases-loop
unfit-finding-requires c κs =
    let a = c in
    let s = start_of (loop_of a.before.before) in
    (s.requires.0, (s.requires.1.1.0.offers, (lead_is a.before.before, a.loop-i-test.true)))

same_length : tie.Need-shape_of-values-then-not-serves invariant-loop decreases-loop
same_length c = c.loop-i.invariant.0.long

returns : tie.Need-returns-then-not-serves invariant-loop decreases-loop
returns c =
    let a = c in
    let l = loop_of a.before.before.before in
    let un = use_known _ _ _ (need_is a.before.before.before) _ (lead_is a.before.before.before) _ (served (start_of l) _ _ c.serves.ensures) in
    (l.loop-i.invariant.0.long, (ap Err c.unfit_finding.ensures ∙ using_broken _ _ _ _ l.loop-i.invariant.0 (inside a.before.before.before) (sym un ∙ (ap not c.if-not-serves.true)), tt))

mul-nearest-2 : tie.Need-offset_bounds-recent-slot-then-is_name_need invariant-loop decreases-loop
mul-nearest-2 c = omega (arith, slot_few c.before.before)

array-read-nearest-2 : tie.Need-bounds-recent-slot-then-is_name_need invariant-loop decreases-loop
array-read-nearest-2 c = omega (arith, slot_few c.before.before, (loop_of c.before.before).loop-i.invariant.2)

nearest-requires : tie.Need-nearest-requires invariant-loop decreases-loop
nearest-requires c κs = tt

mul-recent : tie.Need-offset_bounds-recent-slot-then-is_name_need-2 invariant-loop decreases-loop
mul-recent c = omega (arith, slot_few c.before.before.before)

array-write-recent : tie.Need-bounds-recent-slot-then-is_name_need-2 invariant-loop decreases-loop
array-write-recent c = omega (arith, slot_few c.before.before.before, (loop_of c.before.before.before).loop-i.invariant.2)

word-for-requires : tie.Need-word_for-found-requires invariant-loop decreases-loop
word-for-requires c κs =
    let a = c in
    let s = start_of (loop_of a.before.before.before) in
    subst Small (sym (lead_is a.before.before.before)) (lead_small _ _ (omega (arith, s.requires.1.1.1.1.0, defined_counted _ _ s.requires.1.1.1.0)))

mul-values : tie.Need-offset_bounds-values-i invariant-loop decreases-loop
mul-values c = let a = c in omega (arith, a.loop-i-test.true, few_classes _ _ _ _ (start_of (loop_of a.before.before.before.before)).requires.0)

slice-write-values : tie.Need-bounds-values-i invariant-loop decreases-loop
slice-write-values c = let a = c in room a.before.before.before.before

next-enclosing-requires : tie.Need-next_enclosing-word-requires invariant-loop decreases-loop
next-enclosing-requires c κs = (omega arith, (loop_of c.before.before.before.before).loop-i.invariant.1)

add-i : tie.Need-overflow_add-i invariant-loop decreases-loop
add-i c = let a = c in omega (arith, a.loop-i-test.true, few_classes _ _ _ _ (start_of (loop_of a.before.before.before.before.before)).requires.0)

loop-less : tie.Need-loop-i-smaller-then-is_name_need invariant-loop decreases-loop
loop-less c = let a = c in omega (arith, a.loop-i-test.true)

loop-again : tie.Need-loop-i-preserved-then-is_name_need invariant-loop decreases-loop
loop-again c =
    let a = c in
    let l = loop_of a.before.before.before.before.before in
    let known = use_known _ _ _ (need_is a.before.before.before.before.before) _ (lead_is a.before.before.before.before.before) _ (served (start_of l) _ _ c.serves.ensures) in
    let value = c.word_for-found.ensures ∙ ap word_of (lead_is a.before.before.before.before.before) ∙ use_value _ _ l.loop-i.invariant.0.from (used a.before.before.before.before.before) in
    (using_next _ _ _ _ l.loop-i.invariant.0 (inside a.before.before.before.before.before) (sym known ∙ (ap not c.if-not-serves.false)) (room a.before.before.before.before.before) _ value, c.next_enclosing-word.ensures, (simp length-set) ∙ l.loop-i.invariant.2)

magnitude-at-requires : tie.Need-magnitude_at-requires invariant-loop decreases-loop
magnitude-at-requires c κs = ((start_of c.before.before.before.before).requires.0, c.loop-i-test.true)

mul-values-2 : tie.Need-offset_bounds-values-i-else-is_name_need invariant-loop decreases-loop
mul-values-2 c = omega (arith, c.loop-i-test.true, few_classes _ _ _ _ (start_of c.before.before.before.before.before).requires.0)

slice-write-values-2 : tie.Need-bounds-values-i-else-is_name_need invariant-loop decreases-loop
slice-write-values-2 c =
    let l = c in
    omega (arith, c.loop-i-test.true, l.loop-i.invariant.0.long, (start_of l.before.before.before.before.before).requires.1.0)

next-enclosing-requires-2 : tie.Need-next_enclosing-word-requires-else-is_name_need invariant-loop decreases-loop
next-enclosing-requires-2 c κs = (omega arith, c.loop-i.invariant.1)

add-i-2 : tie.Need-overflow_add-i-else-is_name_need invariant-loop decreases-loop
add-i-2 c = omega (arith, c.loop-i-test.true, few_classes _ _ _ _ (start_of c.before.before.before.before.before.before).requires.0)

loop-less-2 : tie.Need-loop-i-smaller invariant-loop decreases-loop
loop-less-2 c = omega (arith, c.loop-i-test.true)

loop-again-2 : tie.Need-loop-i-preserved invariant-loop decreases-loop
loop-again-2 c =
    let n = c in
    let l = n in
    let s = start_of l.before.before.before.before.before.before in
    let h = n.loop-i-test.true in
    let need = need_said s _ n.need_at-need.ensures in
    let none = sym c.is_name_need.ensures ∙ c.if-is_name_need.false in
    let value = c.magnitude_at.ensures ∙ other_value (meanings_in s.args.text.now) l.loop-i.i l.loop-i.invariant.0.from (sym (ap is_name_need need) ∙ none) in
    (using_next _ _ _ _ l.loop-i.invariant.0 (omega (arith, h, said_counted _ _ _ _ s.requires.0)) (sym (no_use_known _ _ _ need (no_need _ none))) (omega (arith, h, l.loop-i.invariant.0.long, s.requires.1.0)) _ value, c.next_enclosing-word-else-is_name_need.ensures, l.loop-i.invariant.2)

same-length-2 : tie.Need-shape_of-values invariant-loop decreases-loop
same-length-2 c = c.loop-i.invariant.0.long

returns-2 : tie.Need-returns invariant-loop decreases-loop
returns-2 c =
    let l = c in
    let s = start_of l.before in
    let h : length (meanings_in s.args.text.now) ≤ l.loop-i.i = omega (arith, c.loop-i-test.false, said_counted _ _ _ _ s.requires.0) in
    (l.loop-i.invariant.0.long, (using_kept _ _ _ _ l.loop-i.invariant.0 h, using_end _ _ _ _ l.loop-i.invariant.0 h (omega (arith, l.loop-i.invariant.0.long, s.requires.1.0, said_counted _ _ _ _ s.requires.0))))

pub judge_uses_spec : {M : Type 1} → statement M
judge_uses_spec =
    tie.close
    (tie.spec
    invariant-loop
    decreases-loop
    imports-end-requires
    count-requires
    mul-size
    blank-names-requires
    array-borrow-prefix-names
    slice-aggregate-collect-names
    collect-names-requires
    enclosing-at-requires
    blank-recent-requires
    loop-holds
    need-at-requires
    is-name-need-requires
    name-at-requires
    name-tag-requires
    slot-of-requires
    mul-nearest
    array-read-nearest
    slice-reshare-prefix-leads-to
    slice-aggregate-leads-to
    array-share-prefix-names
    slice-aggregate-leads-to-2
    leads-to-requires
    serves-requires
    unfit-finding-requires
    same_length
    returns
    mul-nearest-2
    array-read-nearest-2
    nearest-requires
    mul-recent
    array-write-recent
    word-for-requires
    mul-values
    slice-write-values
    next-enclosing-requires
    add-i
    loop-less
    loop-again
    magnitude-at-requires
    mul-values-2
    slice-write-values-2
    next-enclosing-requires-2
    add-i-2
    loop-less-2
    loop-again-2
    same-length-2
    returns-2)
