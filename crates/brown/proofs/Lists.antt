-- Lists whose elements have properties, two lists that go together, and a list in two parts.
use Rattle.std.proofs.Common.{◌≡◌, ℕ, ◌+◌, ◌<◌, ◌⊎◌, List, [], ◌∷◌, length, refl, inl, inr, arith}
use Rattle.algebra.specs.Lists.{All, Distinct}
use Rattle.brown.specs.Joined.{Pairwise}

pub all_map : {A : Type 0} {P Q : A → Type 0} → ((a : A) → P a → Q a) → (l : List A) → All P l → All Q l
all_map f [] h = tt
all_map f (a ∷ l) h = (f a h.0, all_map f l h.1)

pub all_both : {A : Type 0} {P Q S : A → Type 0} → ((a : A) → P a → Q a → S a) → (l : List A) → All P l → All Q l → All S l
all_both f [] h k = tt
all_both f (a ∷ l) h k = (f a h.0 k.0, all_both f l h.1 k.1)

-- an element of a list that is not empty
pub some : {A : Type 0} (P : A → Type 0) (l : List A) → All P l → 0 < length l → (a : A) × P a
some P [] h l = absurd (omega arith)
some P (a ∷ k) h l = (a, h.0)

module _ {A B : Type 0} where
  pub pairwise_map : {P Q : A → B → Type 0} → ((a : A) (b : B) → P a b → Q a b) → (k : List A) (l : List B) → Pairwise P k l → Pairwise Q k l
  pairwise_map f [] [] h = tt
  pairwise_map f [] (b ∷ l) h = absurd h
  pairwise_map f (a ∷ k) [] h = absurd h
  pairwise_map f (a ∷ k) (b ∷ l) h = (f a b h.0, pairwise_map f k l h.1)

  pub pairwise_every : (P : ℕ → A → B → Type 0) (k : List A) (l : List B) → ((n : ℕ) → Pairwise (P n) k l) → Pairwise (λ a b. (n : ℕ) → P n a b) k l
  pairwise_every P [] [] h = tt
  pairwise_every P [] (b ∷ l) h = absurd (h 0)
  pairwise_every P (a ∷ k) [] h = absurd (h 0)
  pairwise_every P (a ∷ k) (b ∷ l) h = (λ n. (h n).0, pairwise_every P k l (λ n. (h n).1))

  -- what the pairs and the second list say of the first
  pub pairwise_left : {P : A → B → Type 0} {Q : B → Type 0} {S : A → Type 0} → ((a : A) (b : B) → P a b → Q b → S a) → (k : List A) (l : List B) → Pairwise P k l → All Q l → All S k
  pairwise_left f [] [] h q = tt
  pairwise_left f [] (b ∷ l) h q = absurd h
  pairwise_left f (a ∷ k) [] h q = absurd h
  pairwise_left f (a ∷ k) (b ∷ l) h q = (f a b h.0 q.0, pairwise_left f k l h.1 q.1)

pub pairwise_self : {A : Type 0} (P : A → A → Type 0) (l : List A) → Pairwise P l l → All (λ a. P a a) l
pairwise_self P [] h = tt
pairwise_self P (a ∷ l) h = (h.0, pairwise_self P l h.1)

-- a list whose elements have P or Q, as two lists
pub record Parted {A : Type 0} (P Q : A → Type 0) (l : List A) : Type 0 where
  pub left : List A
  pub right : List A
  pub lengths : length l ≡ length left + length right
  pub all_left : All P left
  pub all_right : All Q right
  pub distinct : Distinct left × Distinct right
  pub avoid : (a : A) → All (λ b. ¬ (b ≡ a)) l → All (λ b. ¬ (b ≡ a)) left × All (λ b. ¬ (b ≡ a)) right

pub part : {A : Type 0} {P Q : A → Type 0} (l : List A) → Distinct l → All (λ a. P a ⊎ Q a) l → Parted P Q l
part [] d h = record { left = []; right = []; lengths = refl; all_left = tt; all_right = tt; distinct = (tt, tt); avoid = λ a n. (tt, tt) }
part {A} {P} {Q} (a ∷ l) d h = go h.0 (part l d.1 h.1)
  where
    go : P a ⊎ Q a → Parted P Q l → Parted P Q (a ∷ l)
    go (inl p) t =
        let e = t.lengths in
        record {
          left = a ∷ t.left;
          right = t.right;
          lengths = omega arith;
          all_left = (p, t.all_left);
          all_right = t.all_right;
          distinct = (((t.avoid a d.0).0, t.distinct.0), t.distinct.1);
          avoid = λ b n. ((n.0, (t.avoid b n.1).0), (t.avoid b n.1).1);
        }
    go (inr q) t =
        let e = t.lengths in
        record {
          left = t.left;
          right = a ∷ t.right;
          lengths = omega arith;
          all_left = t.all_left;
          all_right = (q, t.all_right);
          distinct = (t.distinct.0, ((t.avoid a d.0).1, t.distinct.1));
          avoid = λ b n. ((t.avoid b n.1).0, (n.0, (t.avoid b n.1).1));
        }
