-- Lists of elements and lists of their codes, and a function of elements as one of codes.
use Rattle.std.proofs.Common.{◌≡◌, ℕ, true, false, ◌⊎◌, ◌↔◌, List, [], ◌∷◌, map, sym, refl, ap, ap₂, inl, inr}
use Rattle.std.proofs.lemmas.Bool.{cases_Bool, both_ways}
use Rattle.algebra.specs.Lists.{All, Distinct}
use Rattle.brown.proofs.Lists.{all_map}
use Rattle.rules.specs.Points.{Number}
use Rattle.method.specs.Right.{Codes}

pub number_iff : {P Q : ℕ → Type 0} → ((n : ℕ) → P n ↔ Q n) → (ns : List ℕ) (m : ℕ) → Number P ns m → Number Q ns m
number_iff f ns m c = record {
  list = c.list;
  distinct = c.distinct;
  exact = λ n. (λ a. let e = (c.exact n).0 a in (e.0, (f n).0 e.1), λ a. (c.exact n).1 (a.0, (f n).1 a.1));
  size = c.size;
}

module _ {E : Type 0} (codes : Codes E) where
  open codes use {element, code, decode, coded, code_decode, decode_code}

  -- numbers that are all codes are the codes of some elements
  pub decoded : (ns : List ℕ) → All (λ n. element n ≡ true) ns → (αs : List E) × (ns ≡ map code αs)
  decoded [] h = ([], refl)
  decoded (n ∷ ns) h = let (αs, e) = decoded ns h.1 in (decode n h.0 ∷ αs, ap₂ ◌∷◌ (sym (code_decode n h.0)) e)

  pub all_codes : (P : ℕ → Type 0) (αs : List E) → All P (map code αs) → All (λ α. P (code α)) αs
  all_codes P [] h = tt
  all_codes P (α ∷ αs) h = (h.0, all_codes P αs h.1)

  pub distinct_codes : (αs : List E) → Distinct (map code αs) → Distinct αs
  distinct_codes [] d = tt
  distinct_codes (α ∷ αs) d = (all_map (λ β n e. n (ap code e)) αs (all_codes (λ m. ¬ (m ≡ code α)) αs d.0), distinct_codes αs d.1)

  by_case : {X : Type 0} → (E → X) → X → (n : ℕ) → (element n ≡ true) ⊎ (element n ≡ false) → X
  by_case f x n (inl e) = f (decode n e)
  by_case f x n (inr e) = x

  -- f of the element with this code, and x where there is none
  pub by_code : {X : Type 0} → (E → X) → X → ℕ → X
  by_code f x n = by_case f x n (cases_Bool (element n))

  pub by_code_is : {X : Type 0} (f : E → X) (x : X) (α : E) → by_code f x (code α) ≡ f α
  unfolding by_case by_code
  by_code_is {X} f x α = go (cases_Bool (element (code α)))
    where
      go : (c : (element (code α) ≡ true) ⊎ (element (code α) ≡ false)) → by_case f x (code α) c ≡ f α
      go (inl e) = ap f (decode_code α e)
      go (inr e) = absurd (both_ways (element (code α)) e (coded α))
