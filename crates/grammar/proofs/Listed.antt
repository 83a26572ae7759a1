-- Rows of words with a byte between, at most so many or any number, are read exactly.
use Prim.Native.Nat.{ℕ, zero, suc, ◌≤◌}
use mathlib.Core.Path.{◌≡◌, refl, ap}
use mathlib.Core.Logic.{◌↔◌, inl, inr, ⊎_elim}
use mathlib.Core.Bool.{Bool, true, false}
use mathlib.Core.List.{List, [], ◌∷◌, ◌++◌, cons≢nil}
use native.Mathlib.Omega.{arith}
use lib.ListN.{length, drop, length-drop}
use Rattle.grammar.specs.Language.{GoesOn, Join, Behind, Optional, Mapped, cons, More, Listed, AnyMore, AnyListed}
use Rattle.grammar.specs.Reading.{Read, join_read, map_read, more_read}
use Rattle.grammar.proofs.Exact.{Stops, alike}
use Rattle.grammar.proofs.Join.{Within, Outside}
use Rattle.grammar.proofs.Reading.{ReadsAt, map_at, behind_at_lem, join_at, optional_at}

module _ {A : Type 0} (F : List ℕ → A → Type 0) (c : ℕ) (D : ℕ → Bool)
    (within : (w : List ℕ) (v : A) → F w v → Within D w) (out : D c ≡ false)
    (goes : GoesOn F []) (f : List ℕ → Read A) (reads : (s : List ℕ) → ReadsAt F s (f s)) where
  -- Any number more, in as many turns as there are bytes; and one entry, with at most so many behind it.
  abbrev any_read : List ℕ → Read (List A)
  any_read r = more_read f c (length r) r

  abbrev turn : ℕ → List ℕ → Read (List A)
  turn n r = map_read cons (join_read f (more_read f c n) r)

  behind_out : {B : Type 0} (L : List ℕ → B → Type 0) (w : List ℕ) (v : B) → Behind c L w v → Outside D w
  behind_out L [] v l = tt
  behind_out L (b ∷ w) v l = rw l.0 out

  nil_out : (w : List ℕ) → w ≡ [] → Outside D w
  nil_out w e = rw e tt

  behind_empty : {B : Type 0} (L : List ℕ → B → Type 0) (v : B) → Behind c L [] v → ⊥
  behind_empty L v l = l

  more_out : (n : ℕ) (w : List ℕ) (vs : List A) → More F c n w vs → Outside D w
  more_out zero w vs m = nil_out w m.0
  more_out (suc n) w vs m = ⊎_elim (λ k. nil_out w k.0) (λ k. behind_out (Mapped cons (Join F (More F c n))) w vs k) m

  more_goes : (n : ℕ) → GoesOn (More F c n) []
  more_goes zero = record { tail = []; meaning = []; derives = (refl, refl) }
  more_goes (suc n) = record { tail = []; meaning = []; derives = inl (refl, refl) }

  list_goes : (T : List ℕ → List A → Type 0) → GoesOn T [] → GoesOn (Mapped cons (Join F T)) []
  list_goes T t =
      record {
        tail = goes.tail ++ t.tail;
        meaning = goes.meaning ∷ t.meaning;
        derives = (
          (goes.meaning, t.meaning),
          record { left = goes.tail; right = t.tail; splits = refl; first = goes.derives; second = t.derives },
          refl,
        );
      }

  -- One more entry, and what follows it.
  list_at
      : (T : List ℕ → List A → Type 0) → ((w : List ℕ) (v : List A) → T w v → Outside D w) → GoesOn T []
      → (t : List ℕ → Read (List A)) (s : List ℕ) → ReadsAt T (drop (f s).count s) (t (drop (f s).count s))
      → ReadsAt (Mapped cons (Join F T)) s (map_read cons (join_read f t s))
  list_at T o g t s r =
      map_at cons (Join F T) s (join_read f t s)
      (join_at F T D within o g s (f s) (t (drop (f s).count s)) (t []).value (reads s) r)

  no_more : (r : List ℕ) → ReadsAt (More F c zero) r (more_read f c zero r)
  no_more r =
      record {
        within = omega arith;
        exact = record { live = more_goes zero; stops = stops r; yields = λ h. (refl, refl); only = λ v m. (refl, m.1) };
      }
    where
      stops : (q : List ℕ) → Stops (More F c zero) [] q
      stops [] = tt
      stops (b ∷ q) = λ g. cons≢nil g.derives.0

  pub more_at : (n : ℕ) (s : List ℕ) → ReadsAt (More F c n) s (more_read f c n s)
  more_at zero s = no_more s
  more_at (suc n) s =
      optional_at [] (Behind c (Listed F c n)) (behind_empty (Listed F c n)) s _
      (behind_at_lem c (Listed F c n) (turn n) (list_goes (More F c n) (more_goes n)) s
      (λ b bs e. list_at (More F c n) (more_out n) (more_goes n) (more_read f c n) bs (more_at n (drop (f bs).count bs))))

  pub listed_at : (n : ℕ) (s : List ℕ) → ReadsAt (Listed F c n) s (map_read cons (join_read f (more_read f c n) s))
  listed_at n s = list_at (More F c n) (more_out n) (more_goes n) (more_read f c n) s (more_at n (drop (f s).count s))

  -- Any number more: as many turns as there are bytes suffice.
  any_out : (w : List ℕ) (vs : List A) → AnyMore F c w vs → Outside D w
  any_out w vs m = more_out m.0 w vs m.1

  pub any_goes : GoesOn (AnyMore F c) []
  any_goes = record { tail = []; meaning = []; derives = (zero, (refl, refl)) }

  any_same : (w : List ℕ) (vs : List A) → Optional [] (Behind c (AnyListed F c)) w vs ↔ AnyMore F c w vs
  any_same w vs = (λ o. to w o, λ m. from w m.0 m.1)
    where
      to : (w' : List ℕ) → Optional [] (Behind c (AnyListed F c)) w' vs → AnyMore F c w' vs
      to w' (inl k) = (zero, k)
      to [] (inr k) = absurd k
      to (b ∷ w') (inr k) =
          let j = k.1.1 in
          let i : Join F (More F c j.second.0) w' k.1.0 =
          record { left = j.left; right = j.right; splits = j.splits; first = j.first; second = j.second.1 } in
          (suc j.second.0, inr (k.0, (k.1.0, i, k.1.2)))

      from : (w' : List ℕ) (n : ℕ) → More F c n w' vs → Optional [] (Behind c (AnyListed F c)) w' vs
      from w' zero k = inl k
      from w' (suc n) (inl k) = inl k
      from [] (suc n) (inr k) = absurd k
      from (b ∷ w') (suc n) (inr k) =
          let j = k.1.1 in
          let i : Join F (AnyMore F c) w' k.1.0 =
          record { left = j.left; right = j.right; splits = j.splits; first = j.first; second = (n, j.second) } in
          inr (k.0, (k.1.0, i, k.1.2))

  any_none : (q : List ℕ) → length q ≤ 0 → ReadsAt (AnyMore F c) q (record { count = 0; good = true; value = [] })
  any_none [] h =
      record {
        within = omega arith;
        exact =
            record {
              live = any_goes;
              stops = tt;
              yields = λ t. (zero, (refl, refl));
              only = λ v m. (refl, value v m.0 m.1);
            };
      }
    where
      value : (v : List A) (n : ℕ) → More F c n [] v → v ≡ []
      value v zero m = m.1
      value v (suc n) (inl m) = m.1
      value v (suc n) (inr m) = absurd m
  any_none (b ∷ q) h = absurd (omega arith)

  shorter_rest : (n k : ℕ) (s : List ℕ) (b : ℕ) (bs : List ℕ) → length s ≤ suc n → s ≡ b ∷ bs → length (drop k bs) ≤ n
  shorter_rest n k s b bs h e = omega (arith, length-drop k bs, ap length e)

  pub any_at : (n : ℕ) (s : List ℕ) → length s ≤ n → ReadsAt (AnyMore F c) s (more_read f c n s)
  any_at zero s h = any_none s h
  any_at (suc n) s h =
      let o =
      optional_at [] (Behind c (AnyListed F c)) (behind_empty (AnyListed F c)) s _
      (behind_at_lem c (AnyListed F c) (turn n) (list_goes (AnyMore F c) any_goes) s
      (λ b bs e. list_at (AnyMore F c) any_out any_goes (more_read f c n) bs
      (any_at n (drop (f bs).count bs) (shorter_rest n (f bs).count s b bs h e)))) in
      record { within = o.within; exact = alike _ _ any_same o.exact }

  pub any_listed_at : (s : List ℕ) → ReadsAt (AnyListed F c) s (map_read cons (join_read f any_read s))
  any_listed_at s =
      list_at (AnyMore F c) any_out any_goes any_read s
      (any_at (length (drop (f s).count s)) (drop (f s).count s) (omega arith))
