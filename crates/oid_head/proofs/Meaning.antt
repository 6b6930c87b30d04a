-- What `HasOid` says without a bound, and that following as many heads as there are definitions is far enough: a name has at most
-- one OID; it has one exactly where its heads reach a built-in name; and then a definition's is `resolved_oid`.
-- Assumes nothing.
use mathlib.Core.Path.{◌≡◌, refl, sym, ap, ◌∙◌}
use mathlib.Core.Bool.{Bool, true, false, not}
use mathlib.Core.List.{List, [], ◌++◌}
use Prim.Native.Nat.{ℕ, zero, suc, ◌+◌, ◌-◌, ◌≤◌, ◌<◌}
use native.Mathlib.Decide.{dec_lt}
use native.Mathlib.Omega.{arith}
use borrow.Author.Tests.{not-true, not-false}
use lib.ListN.{get_or-eq_default}
use Rattle.index.specs.Walk.{after}
use Rattle.index.specs.declared.RecordIndex.{RecordIndex}
use Rattle.index.proofs.Search.{true_false, answers}
use Rattle.index.proofs.Walk.{after_first, ends_in_time, one_rest}
use Rattle.module_table.specs.Definition.{absent}
use Rattle.module_table.specs.Module.{Module, at, count_of}
use Rattle.module_table.specs.declared.Lead.{Lead}
use Rattle.module_table.specs.declared.Lead.TheVariants.{Iso, Import, Nothing}
use Rattle.oid_head.specs.Oid.{HasOid, of_iso, of_symbol, of_definition, has_value, head_of, parts_of, is_built_in, next_head, name_of, reached_in, Reaches, reaches, name_numbers, definition_numbers, resolved_oid}

-- past the last definition there is no OID value
pub no_value : has_value absent ≡ false
unfolding absent
no_value = refl

module _ (m : Module) where
  pub value_inside : (k : ℕ) → has_value (at m k) ≡ true → k < count_of m
  value_inside k e = go (dec_lt k (count_of m))
    where
      go : Dec (k < count_of m) → k < count_of m
      go (yes h) = h
      go (no h) = absurd (true_false e (ap has_value (get_or-eq_default m.definitions absent {n = k} (omega arith)) ∙ no_value))

  abbrev step : Lead → Lead
  step = next_head m

  abbrev numbers : ℕ → Lead → List ℕ
  numbers n l = name_numbers (definition_numbers m n) l

  -- from a definition with an OID value a step leads to its head
  pub step_value : (d : RecordIndex) → has_value (at m d.0) ≡ true → step (Lead.Definition d) ≡ head_of m d.0
  step_value d e = rw e

  pub stays_put : (d : RecordIndex) → has_value (at m d.0) ≡ false → step (Lead.Definition d) ≡ Lead.Definition d
  stays_put d f = rw f

  numbers_value : (n k : ℕ) → has_value (at m k) ≡ true → definition_numbers m (suc n) k ≡ numbers n (head_of m k) ++ parts_of m k
  unfolding definition_numbers
  numbers_value n k e = rw e

  -- ---- a name has at most one OID

  -- the numbers of a name that has an OID are its OID, if enough heads are left
  abbrev Computed : Lead → List ℕ → Type 0
  Computed l xs = (n : ℕ) × ((o : ℕ) → n ≤ o → numbers o l ≡ xs)

  computed_more : (d : RecordIndex) (xs : List ℕ) → has_value (at m d.0) ≡ true → Computed (head_of m d.0) xs → Computed (Lead.Definition d) (xs ++ parts_of m d.0)
  computed_more d xs v c = (suc c.0, λ o l. more o l)
    where
      more : (o : ℕ) → suc c.0 ≤ o → numbers o (Lead.Definition d) ≡ xs ++ parts_of m d.0
      more zero l = absurd (omega arith)
      more (suc o) l = numbers_value o d.0 v ∙ ap (λ (ns : List ℕ). ns ++ parts_of m d.0) (c.1 o (omega arith))

  computed : {l : Lead} {xs : List ℕ} → HasOid m l xs → Computed l xs
  computed of_iso = (0, λ o l. refl)
  computed (of_symbol k s) = (0, λ o l. refl)
  computed (of_definition d xs v h) = computed_more d xs v (computed h)

  pub one_oid : {l : Lead} {xs ys : List ℕ} → HasOid m l xs → HasOid m l ys → xs ≡ ys
  one_oid {l} {xs} {ys} x y = join (computed x) (computed y)
    where
      join : Computed l xs → Computed l ys → xs ≡ ys
      join a b = sym (a.1 (a.0 + b.0) (omega arith)) ∙ b.1 (a.0 + b.0) (omega arith)

  -- ---- it has one exactly where its heads reach a built-in name

  pub oid_reaches : {l : Lead} {xs : List ℕ} → HasOid m l xs → Reaches m l
  unfolding after
  oid_reaches of_iso = (0, refl)
  oid_reaches (of_symbol k s) = (0, s)
  oid_reaches (of_definition d xs v h) = more (oid_reaches h)
    where
      more : Reaches m (head_of m d.0) → Reaches m (Lead.Definition d)
      more r = (
        suc r.0,
        ap is_built_in (after_first step r.0 (Lead.Definition d) ∙ ap (after step r.0) (step_value d v)) ∙ r.1,
      )

  -- a walk that stays where it is
  pub rests : (n : ℕ) (l : Lead) → step l ≡ l → after step n l ≡ l
  unfolding after
  rests zero l e = refl
  rests (suc n) l e = ap step (rests n l e) ∙ e

  -- a definition is reached only where it has an OID value, by its head, and with a head left to follow
  pub record Onward (n : ℕ) (d : RecordIndex) : Type 0 where
    pub some : n ≡ 0 → ⊥
    pub value : has_value (at m d.0) ≡ true
    pub head : reached_in m (n - 1) (head_of m d.0) ≡ true

  pub onward : (n : ℕ) (d : RecordIndex) → reached_in m n (Lead.Definition d) ≡ true → Onward n d
  unfolding after
  onward zero d e = absurd (true_false e refl)
  onward (suc n) d e =
      let less : suc n - 1 ≡ n = omega arith in
      let first = sym (ap is_built_in (after_first step n (Lead.Definition d))) ∙ e in
      answers (has_value (at m d.0))
      (λ v. record { some = λ z. omega arith; value = v; head = rw less (sym (ap (reached_in m n) (step_value d v)) ∙ first) })
      (λ f. absurd (true_false first (ap (reached_in m n) (stays_put d f) ∙ ap is_built_in (rests n (Lead.Definition d) (stays_put d f)))))

  -- where n steps lead to a built-in name, n heads left are enough
  pub reached_oid : (n : ℕ) (l : Lead) → reached_in m n l ≡ true → HasOid m l (numbers n l)
  unfolding after
  reached_oid zero l e = go l e
    where
      go : (l : Lead) → is_built_in l ≡ true → HasOid m l (numbers zero l)
      go Iso e = of_iso
      go (Import k) e = of_symbol k e
      go (Lead.Definition d) e = absurd (true_false e refl)
      go Nothing e = absurd (true_false e refl)
  reached_oid (suc n) l e = go l e (reached_oid n)
    where
      go : (l : Lead) → reached_in m (suc n) l ≡ true → ((k : Lead) → reached_in m n k ≡ true → HasOid m k (numbers n k)) → HasOid m l (numbers (suc n) l)
      go Iso e ih = of_iso
      go (Import k) e ih = of_symbol k (sym (ap is_built_in (rests (suc n) (Import k) refl)) ∙ e)
      go (Lead.Definition d) e ih =
          let on = onward (suc n) d e in
          let less : suc n - 1 ≡ n = omega arith in
          let h = ih (head_of m d.0) (rw less at on.head) in
          rw (numbers_value n d.0 on.value) (of_definition d _ on.value h)
      go Nothing e ih = absurd (true_false e (ap is_built_in (rests (suc n) Nothing refl)))

  pub reaches_oid : (l : Lead) → Reaches m l → (xs : List ℕ) × HasOid m l xs
  reaches_oid l r = (numbers r.0 l, reached_oid r.0 l r.1)

  -- ---- as many steps as there are definitions are far enough

  -- the walk stops at anything but a definition with an OID value
  abbrev stops : Lead → Bool
  stops Iso = true
  stops (Import k) = true
  stops (Lead.Definition d) = not (has_value (at m d.0))
  stops Nothing = true

  abbrev index_of : Lead → ℕ
  index_of Iso = 0
  index_of (Import k) = 0
  index_of (Lead.Definition d) = d.0
  index_of Nothing = 0

  sticky : (l : Lead) → stops l ≡ true → step l ≡ l
  sticky Iso e = refl
  sticky (Import k) e = refl
  sticky (Lead.Definition d) e = stays_put d (not-true _ e)
  sticky Nothing e = refl

  distinct : (k l : Lead) → stops k ≡ false → stops l ≡ false → index_of k ≡ index_of l → k ≡ l
  distinct (Lead.Definition d) (Lead.Definition e) p q equal = λ i. Lead.Definition (record { 0 = equal i })
  distinct Iso l p q equal = absurd (true_false refl p)
  distinct (Import k) l p q equal = absurd (true_false refl p)
  distinct Nothing l p q equal = absurd (true_false refl p)
  distinct (Lead.Definition d) Iso p q equal = absurd (true_false refl q)
  distinct (Lead.Definition d) (Import k) p q equal = absurd (true_false refl q)
  distinct (Lead.Definition d) Nothing p q equal = absurd (true_false refl q)

  inside : (l : Lead) → stops l ≡ false → index_of l < count_of m
  inside Iso e = absurd (true_false refl e)
  inside (Import k) e = absurd (true_false refl e)
  inside (Lead.Definition d) e = value_inside d.0 (not-false _ e)
  inside Nothing e = absurd (true_false refl e)

  built_in_stops : (l : Lead) → is_built_in l ≡ true → stops l ≡ true
  built_in_stops Iso e = refl
  built_in_stops (Import k) e = refl
  built_in_stops (Lead.Definition r) e = absurd (true_false e refl)
  built_in_stops Nothing e = refl

  pub in_time : (l : Lead) → Reaches m l → reached_in m (count_of m) l ≡ true
  in_time l r =
      let stopped = built_in_stops (after step r.0 l) r.1 in
      let ended = ends_in_time step stops index_of (count_of m) l sticky (λ n e. inside (after step n l) e) distinct r.0 stopped in
      ap is_built_in (one_rest step stops l sticky (count_of m) r.0 ended stopped) ∙ r.1

  pub far_enough : (k : ℕ) → Reaches m (name_of k) → reaches m k ≡ true
  unfolding reaches
  far_enough k r = in_time (name_of k) r

  -- so a definition that is not reached has no OID
  pub unreached_none : (k : ℕ) (xs : List ℕ) → reaches m k ≡ false → HasOid m (name_of k) xs → ⊥
  unreached_none k xs e h = true_false (far_enough k (oid_reaches h)) e

  -- and one that is reached has the OID that `resolved_oid` gives
  pub oid_is : (k : ℕ) → reaches m k ≡ true → HasOid m (name_of k) (resolved_oid m k)
  unfolding reaches resolved_oid
  oid_is k e = reached_oid (count_of m) (name_of k) e

  -- ---- an OID by those of other definitions, with no bound

  -- what a name leads to has the OID that the definitions' give
  pub name_oid : (n : ℕ) (l : Lead) → reached_in m n l ≡ true → HasOid m l (name_numbers (resolved_oid m) l)
  unfolding resolved_oid
  name_oid n l e = reached_oid (count_of m) l (in_time l (n, e))

  -- a definition that is reached has its head's numbers, followed by its parts'
  pub oid_step : (n : ℕ) (d : RecordIndex) → reached_in m n (Lead.Definition d) ≡ true
      → resolved_oid m d.0 ≡ name_numbers (resolved_oid m) (head_of m d.0) ++ parts_of m d.0
  oid_step n d e =
      let on = onward n d e in
      one_oid (name_oid n (Lead.Definition d) e) (of_definition d _ on.value (name_oid (n - 1) (head_of m d.0) on.head))

  -- a definition with no OID value has none
  pub oid_none : (k : ℕ) → has_value (at m k) ≡ false → resolved_oid m k ≡ []
  unfolding resolved_oid definition_numbers
  oid_none k f = go (count_of m)
    where
      go : (n : ℕ) → definition_numbers m n k ≡ []
      go zero = refl
      go (suc n) = rw f
