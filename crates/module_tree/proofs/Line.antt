-- The lines of definitions: a test that is computed once for a line of the grammar says that the fields of each definition of that line
-- stand where its tree has them.
-- Assumes nothing.
use mathlib.Core.Path.{◌≡◌, refl, sym, ap, ◌∙◌}
use mathlib.Core.Bool.{Bool, true, false, cond, not, ◌&&◌, ◌||◌}
use mathlib.Core.List.{List, [], ◌∷◌, map}
use Prim.Native.Nat.{ℕ, zero, suc, ◌+◌, ◌<◌}
use native.Mathlib.Omega.{arith}
use borrow.Author.Tests.{le-ltb}
use lib.Dec.{T, eqb, ltb, ltb→lt}
use lib.ListN.{length, get_or}
use Rattle.grammar.specs.Rule.{Tree, yield}
use Rattle.index.proofs.Hits.{hits_none}
use Rattle.index.proofs.Tested.{and_left, and_right}
use Rattle.terminal.specs.Terminal.{number, assign, current, not_accessible, AUGMENTS, DEFVAL, INDEX, MAX-ACCESS, OBJECTS, SEQUENCE, STATUS, SYNTAX, UNITS}
use Rattle.definition.specs.Landmark.{class_at, kind_at, has_oid, sequence_type}
use Rattle.definition.specs.Fields.{find, nowhere, braced_at, word_after, syntax_behind, columns_span, oid_span, fields_of}
use Rattle.definition.specs.Members.{oid_numbers}
use Rattle.module_tree.specs.Marked.{Marked, nothing, nil, word, ◌then◌, ◌either◌, steps, mark, unmarked, leaves, marks, size}
use Rattle.module_tree.specs.Grammar.{definition, start, the_end, status, access, syntax, index, augments, default, objects, columns, oid, own_number, identity, def}
use Rattle.module_tree.specs.Module.{is_none, first_marked, first_mark, some_marked, marked_span, places, fields_of_part, numbers_of_part}
use Rattle.module_tree.proofs.Flow.{from_left}
use Rattle.module_tree.proofs.Machine.{after, outputs}
use Rattle.module_tree.proofs.Counted.{among, ends_among, ended_among, reads, marks_are, ends_in, stays, no_output, absent}
use Rattle.module_tree.proofs.Leading.{Stands}
use Rattle.module_tree.proofs.Field.{complete, next, out, span_after, span_told, word_value, never_bad, at_once, word_told, is_there, there_told, outputs_long, second_branch}
use Rattle.module_tree.proofs.Numbers.{oid_value, oid_nonzero, closing, numbers_found}

-- ---- the tests of the fields

abbrev spans : (class : ℕ) (two : Bool) (stop : ℕ → Bool) (value : ℕ → ℕ) (family : ℕ) → Marked → Bool
spans class two stop value family m = reads (next class two stop stop value) (out class two stop stop value) family complete m

abbrev words : (class base family : ℕ) → Marked → Bool
words class base family m =
    reads (next class false never_bad at_once (word_value base)) (out class false never_bad at_once (word_value base)) family complete m

abbrev pub there : (class family : ℕ) → Marked → Bool
there class family m = reads stays (is_there class) family (0 ∷ []) m

-- the first token has the mark k, and no other has one
abbrev first_state : ℕ → ℕ → ℕ
first_state s c = 1

abbrev first_output : ℕ → ℕ → ℕ → ℕ
first_output k s c = cond (eqb s 0) k 0

abbrev named : (k : ℕ) → Marked → Bool
named k m = reads first_state (first_output k) start (1 ∷ []) m

-- what ends a syntax
abbrev syntax_stop : ℕ → Bool
syntax_stop c = eqb c UNITS || eqb c MAX-ACCESS

abbrev one : ℕ → ℕ
one c = 1

module _ (m : Marked) (t : Tree (unmarked m)) (cs : List ℕ) (d : ℕ) (st : Stands cs d (yield (unmarked m) t)) where
  span_law : (class : ℕ) (two : Bool) (stop : ℕ → Bool) (value : ℕ → ℕ) (nonzero : (c : ℕ) → is_none (value c) ≡ false) (family : ℕ)
      → T (spans class two stop value family m) → span_after class two stop cs d (d + size m t) ≡ marked_span d (marks family m t)
  span_law class two stop value nonzero family p =
      span_told class two stop value nonzero cs (yield (unmarked m) t) d st
      (ends_in (next class two stop stop value) (out class two stop stop value) family complete m p t)
      ∙ ap (marked_span d) (marks_are (next class two stop stop value) (out class two stop stop value) family complete m p t)

  word_law : (class base family : ℕ) → T (words class base family m)
      → word_after cs class base d (d + size m t) ≡ first_mark (marks family m t)
  word_law class base family p =
      let n = next class false never_bad at_once (word_value base) in
      let o = out class false never_bad at_once (word_value base) in
      word_told class base cs (yield (unmarked m) t) d st (ends_in n o family complete m p t)
      ∙ ap first_mark (marks_are n o family complete m p t)

  there_law : (class family : ℕ) → T (there class family m)
      → ltb (find cs class d (d + size m t)) (d + size m t) ≡ some_marked (marks family m t)
  there_law class family p =
      there_told class cs (yield (unmarked m) t) d st ∙ ap some_marked (marks_are stays (is_there class) family (0 ∷ []) m p t)

  absent_law : (family : ℕ) → T (absent family m) → nowhere (d + size m t) ≡ marked_span d (marks family m t)
  absent_law family p = go (yield (unmarked m) t) ∙ ap (marked_span d) (marks_are stays no_output family (0 ∷ []) m p t)
    where
      unmarked_all : (xs : List ℕ) → first_marked (outputs stays no_output 0 xs) ≡ length xs
      unmarked_all [] = refl
      unmarked_all (x ∷ xs) = ap suc (unmarked_all xs)

      go : (xs : List ℕ) → nowhere (d + length xs) ≡ marked_span d (outputs stays no_output 0 xs)
      go xs =
          let ls = outputs stays no_output 0 xs in
          let long = outputs_long stays no_output 0 xs in
          ap (λ n. nowhere (d + n)) (sym long)
          ∙ sym (second_branch _ _ (some_marked ls) (le-ltb (first_marked ls) (length ls) (omega (arith, long, unmarked_all xs))))

-- ---- the test of a line, of definitions of this kind

-- a field that definitions of some kinds have
abbrev if_of : Bool → Bool → (family : ℕ) → Marked → Bool
if_of true test family m = test
if_of false test family m = absent family m

-- a number of its own is among the tokens of an OID: the machine has met its mark
abbrev meets : ℕ → ℕ → ℕ → ℕ
meets s c v = cond (eqb v own_number) 1 s

abbrev numbered : Marked → Bool
numbered m = ends_among meets oid m (1 ∷ [])

abbrev tests : ℕ → Marked → List Bool
tests k m =
    words STATUS current status m
    ∷ words MAX-ACCESS not_accessible access m
    ∷ spans SYNTAX false syntax_stop one syntax m
    ∷ spans INDEX true closing one index m
    ∷ spans AUGMENTS true closing one augments m
    ∷ there DEFVAL default m
    ∷ spans OBJECTS true closing one objects m
    ∷ if_of (eqb k sequence_type) (spans SEQUENCE true closing one columns m) columns m
    ∷ if_of (has_oid k) (spans assign true closing oid_value oid m) oid m
    ∷ named k m
    ∷ (ltb 0 k && ltb k the_end)
    ∷ (not (has_oid k) || numbered m)
    ∷ []

abbrev all_pass : List Bool → Bool
all_pass [] = true
all_pass (b ∷ bs) = b && all_pass bs

abbrev pub line_passes : ℕ → Marked → Bool
line_passes k m = all_pass (tests k m)

pass_at : (bs : List Bool) (i : ℕ) → T (all_pass bs) → T (get_or bs i true)
pass_at [] i h = tt
pass_at (b ∷ bs) zero h = and_left b (all_pass bs) h
pass_at (b ∷ bs) (suc i) h = pass_at bs i (and_right b (all_pass bs) h)

module _ (k : ℕ) (m : Marked) (p : T (line_passes k m)) (t : Tree (unmarked m)) (cs : List ℕ) (d : ℕ)
    (st : Stands cs d (yield (unmarked m) t)) where
  -- a field that definitions of some kinds have
  if_law : (b : Bool) (class : ℕ) (value : ℕ → ℕ) (nonzero : (c : ℕ) → is_none (value c) ≡ false) (family : ℕ)
      → T (if_of b (spans class true closing value family m) family m)
      → cond b (span_after class true closing cs d (d + size m t)) (nowhere (d + size m t)) ≡ marked_span d (marks family m t)
  if_law true class value nonzero family q = span_law m t cs d st class true closing value nonzero family q
  if_law false class value nonzero family q = absent_law m t cs d st family q

  -- the fields are those of the tree
  pub fields_are : kind_at cs d ≡ k → fields_of cs d (d + size m t) ≡ fields_of_part k m d t
  unfolding fields_of braced_at syntax_behind columns_span oid_span
  fields_are is = λ i. record {
    kind = is i;
    status = word_law m t cs d st STATUS current status (pass_at (tests k m) 0 p) i;
    access = word_law m t cs d st MAX-ACCESS not_accessible access (pass_at (tests k m) 1 p) i;
    syntax = span_law m t cs d st SYNTAX false syntax_stop one (λ c. refl) syntax (pass_at (tests k m) 2 p) i;
    index = span_law m t cs d st INDEX true closing one (λ c. refl) index (pass_at (tests k m) 3 p) i;
    augments = span_law m t cs d st AUGMENTS true closing one (λ c. refl) augments (pass_at (tests k m) 4 p) i;
    has_default = there_law m t cs d st DEFVAL default (pass_at (tests k m) 5 p) i;
    objects = span_law m t cs d st OBJECTS true closing one (λ c. refl) objects (pass_at (tests k m) 6 p) i;
    columns = columns_are i;
    oid = oid_is i;
  }
    where
      columns_are : columns_span cs d (d + size m t) ≡ marked_span d (marks columns m t)
      columns_are =
          ap (λ j. cond (eqb j sequence_type) (span_after SEQUENCE true closing cs d (d + size m t)) (nowhere (d + size m t))) is
          ∙ if_law (eqb k sequence_type) SEQUENCE one (λ c. refl) columns (pass_at (tests k m) 7 p)

      oid_is : oid_span cs d (d + size m t) ≡ marked_span d (marks oid m t)
      oid_is =
          ap (λ j. cond (has_oid j) (span_after assign true closing cs d (d + size m t)) (nowhere (d + size m t))) is
          ∙ if_law (has_oid k) assign oid_value oid_nonzero oid (pass_at (tests k m) 8 p)

  -- so are the OID's own numbers
  pub numbers_are : oid_numbers cs (marked_span d (marks oid m t)) ≡ numbers_of_part k m d t
  unfolding oid_numbers
  numbers_are = go (has_oid k) (pass_at (tests k m) 8 p)
    where
      none_marked : (e : ℕ) (xs : List ℕ) → places own_number e (outputs stays no_output 0 xs) ≡ []
      none_marked e [] = refl
      none_marked e (x ∷ xs) = none_marked (suc e) xs

      go : (b : Bool) → T (if_of b (spans assign true closing oid_value oid m) oid m)
          → oid_numbers cs (marked_span d (marks oid m t)) ≡ places own_number d (marks oid m t)
      go true q =
          let n = next assign true closing closing oid_value in
          let o = out assign true closing closing oid_value in
          let same = marks_are n o oid complete m q t in
          ap (λ l. oid_numbers cs (marked_span d l)) (sym same)
          ∙ numbers_found cs (yield (unmarked m) t) d st (ends_in n o oid complete m q t) ∙ ap (places own_number d) same
      go false q =
          let same = marks_are stays no_output oid (0 ∷ []) m q t in
          ap (oid_numbers cs) (sym (absent_law m t cs d st oid q)) ∙ no_span (d + size m t)
          ∙ sym (ap (places own_number d) (sym same) ∙ none_marked d (yield (unmarked m) t))
        where
          no_span : (e : ℕ) → oid_numbers cs (nowhere e) ≡ []
          no_span e = hits_none (λ (i : ℕ). eqb (class_at cs i) number) e e (omega arith)

  -- its first token has the mark of its kind, and no other has one
  pub record Named : Type 0 where
    pub some : 0 < size m t
    pub at_first : get_or (marks start m t) 0 0 ≡ k
    pub later : (i : ℕ) → 0 < i → get_or (marks start m t) i 0 ≡ 0

  pub named_is : Named
  named_is =
      let q : T (named k m) = pass_at (tests k m) 9 p in
      let same = marks_are first_state (first_output k) start (1 ∷ []) m q t in
      let all = go (yield (unmarked m) t) (ends_in first_state (first_output k) start (1 ∷ []) m q t) in
      record {
        some = all.0;
        at_first = ap (λ l. get_or l 0 0) (sym same) ∙ all.1;
        later = λ i h. ap (λ l. get_or l i 0) (sym same) ∙ all.2 i h;
      }
    where
      none_later : (xs : List ℕ) (i : ℕ) → get_or (outputs first_state (first_output k) 1 xs) i 0 ≡ 0
      none_later [] i = refl
      none_later (x ∷ xs) zero = refl
      none_later (x ∷ xs) (suc i) = none_later xs i

      behind_first : (xs : List ℕ) (i : ℕ) → 0 < i → get_or (k ∷ outputs first_state (first_output k) 1 xs) i 0 ≡ 0
      behind_first xs zero h = absurd (omega arith)
      behind_first xs (suc i) h = none_later xs i

      go : (xs : List ℕ) → T (among (after first_state (first_output k) 0 xs) (1 ∷ []))
          → (0 < length xs) × (get_or (outputs first_state (first_output k) 0 xs) 0 0 ≡ k) × ((i : ℕ) → 0 < i → get_or (outputs first_state (first_output k) 0 xs) i 0 ≡ 0)
      go [] h = absurd h
      go (x ∷ xs) h = (omega arith, refl, behind_first xs)

  pub its_kind : (0 < k) × (k < the_end)
  its_kind =
      let q : T (ltb 0 k && ltb k the_end) = pass_at (tests k m) 10 p in
      (ltb→lt 0 k (and_left (ltb 0 k) (ltb k the_end) q), ltb→lt k the_end (and_right (ltb 0 k) (ltb k the_end) q))

  -- an OID has a number
  pub has_number : has_oid k ≡ true → 0 < length (numbers_of_part k m d t)
  has_number e =
      go d (leaves oid 0 m t) (ended_among meets oid m (1 ∷ []) q t)
    where
      q : T (numbered m)
      q = rw e at (pass_at (tests k m) 11 p)

      go : (n : ℕ) (ps : List (ℕ × ℕ)) → T (among (from_left meets 0 ps) (1 ∷ []))
          → 0 < length (places own_number n (map (λ (x : ℕ × ℕ). x.1) ps))
      go n [] h = absurd h
      go n (x ∷ ps) h = at (eqb x.1 own_number) h (go (suc n) ps)
        where
          at : (b : Bool) → T (among (from_left meets (cond b 1 0) ps) (1 ∷ []))
              → (T (among (from_left meets 0 ps) (1 ∷ [])) → 0 < length (places own_number (suc n) (map (λ (x : ℕ × ℕ). x.1) ps)))
              → 0 < length (cond b (n ∷ places own_number (suc n) (map (λ (x : ℕ × ℕ). x.1) ps)) (places own_number (suc n) (map (λ (x : ℕ × ℕ). x.1) ps)))
          at true k' ih = omega arith
          at false k' ih = ih k'

-- all lines of a rule, each a definition
abbrev pub lines_pass : Marked → Bool
lines_pass nothing = false
lines_pass nil = false
lines_pass (word c) = false
lines_pass (a then b) = false
lines_pass (a either b) = lines_pass a && lines_pass b
lines_pass (steps a b) = false
lines_pass (mark f k a) = eqb f definition && line_passes k a

pub identity_passes : T (lines_pass identity)
unfolding has_oid
identity_passes = tt

pub def_passes : T (lines_pass def)
unfolding has_oid
def_passes = tt
