-- The laws of the commutative ring ℤ that lib.IntN lacks: the sum, then the product. Assumes nothing.
use mathlib.Core.Path.{◌≡◌, sym, ◌∙◌, ap}
use Prim.Native.Nat.{zero, suc}
use lib.IntN.{ℤ, pos, negsuc, suc_ℤ, pred_ℤ, neg_ℤ, ◌+ℤ◌, ◌-ℤ◌, ◌*ℤ◌, one, +ℤ_assoc, +ℤ_comm, +ℤ_idr, +ℤ_invr, +ℤ-suc_ℤ, +ℤ-pred_ℤ, suc_ℤ-*ℤ, pred_ℤ-*ℤ, *ℤ_comm, *ℤ-one, zero-*ℤ}

-- ---- the sum
pub +ℤ_left_comm : (a b c : ℤ) → a +ℤ (b +ℤ c) ≡ b +ℤ (a +ℤ c)
+ℤ_left_comm a b c = sym (+ℤ_assoc a b c) ∙ ap (λ x. x +ℤ c) (+ℤ_comm a b) ∙ +ℤ_assoc b a c

pub +ℤ_swap : (a b c d : ℤ) → (a +ℤ b) +ℤ (c +ℤ d) ≡ (a +ℤ c) +ℤ (b +ℤ d)
+ℤ_swap a b c d = +ℤ_assoc a b (c +ℤ d) ∙ ap (λ x. a +ℤ x) (+ℤ_left_comm b c d) ∙ sym (+ℤ_assoc a c (b +ℤ d))

-- ---- the product
pub one-*ℤ : (a : ℤ) → pos 1 *ℤ a ≡ a
unfolding one
one-*ℤ a = *ℤ_comm (pos 1) a ∙ *ℤ-one a

pub *ℤ_oneʳ : (a : ℤ) → a *ℤ pos 1 ≡ a
*ℤ_oneʳ a = *ℤ_comm a (pos 1) ∙ one-*ℤ a

-- one more, or one less, on the left of a product distributes; so everything does
distrib_suc : (a b c : ℤ) → (a +ℤ b) *ℤ c ≡ a *ℤ c +ℤ b *ℤ c → (a +ℤ suc_ℤ b) *ℤ c ≡ a *ℤ c +ℤ suc_ℤ b *ℤ c
distrib_suc a b c h =
    ap (λ x. x *ℤ c) (+ℤ-suc_ℤ a b) ∙ suc_ℤ-*ℤ (a +ℤ b) c ∙ ap (λ x. x +ℤ c) h ∙ +ℤ_assoc (a *ℤ c) (b *ℤ c) c ∙ ap (λ x. a *ℤ c +ℤ x) (sym (suc_ℤ-*ℤ b c))

distrib_pred : (a b c : ℤ) → (a +ℤ b) *ℤ c ≡ a *ℤ c +ℤ b *ℤ c → (a +ℤ pred_ℤ b) *ℤ c ≡ a *ℤ c +ℤ pred_ℤ b *ℤ c
distrib_pred a b c h =
    ap (λ x. x *ℤ c) (+ℤ-pred_ℤ a b) ∙ pred_ℤ-*ℤ (a +ℤ b) c ∙ ap (λ x. x -ℤ c) h ∙ +ℤ_assoc (a *ℤ c) (b *ℤ c) (neg_ℤ c) ∙ ap (λ x. a *ℤ c +ℤ x) (sym (pred_ℤ-*ℤ b c))

distrib_zero : (a c : ℤ) → (a +ℤ pos 0) *ℤ c ≡ a *ℤ c +ℤ pos 0 *ℤ c
distrib_zero a c = ap (λ x. x *ℤ c) (+ℤ_idr a) ∙ sym (+ℤ_idr (a *ℤ c)) ∙ ap (λ x. a *ℤ c +ℤ x) (sym (zero-*ℤ c))

pub *ℤ_distribʳ-+ℤ : (a b c : ℤ) → (a +ℤ b) *ℤ c ≡ a *ℤ c +ℤ b *ℤ c
*ℤ_distribʳ-+ℤ a (pos zero) c = distrib_zero a c
*ℤ_distribʳ-+ℤ a (pos (suc n)) c = distrib_suc a (pos n) c (*ℤ_distribʳ-+ℤ a (pos n) c)
*ℤ_distribʳ-+ℤ a (negsuc zero) c = distrib_pred a (pos zero) c (distrib_zero a c)
*ℤ_distribʳ-+ℤ a (negsuc (suc n)) c = distrib_pred a (negsuc n) c (*ℤ_distribʳ-+ℤ a (negsuc n) c)

pub *ℤ_distribˡ-+ℤ : (a b c : ℤ) → a *ℤ (b +ℤ c) ≡ a *ℤ b +ℤ a *ℤ c
*ℤ_distribˡ-+ℤ a b c = *ℤ_comm a (b +ℤ c) ∙ *ℤ_distribʳ-+ℤ b c a ∙ (λ i. *ℤ_comm b a i +ℤ *ℤ_comm c a i)

-- ---- negation
pub +ℤ_cancelʳ : (a b c : ℤ) → a +ℤ c ≡ b +ℤ c → a ≡ b
+ℤ_cancelʳ a b c h = drop a ∙ ap (λ x. x -ℤ c) h ∙ sym (drop b)
  where
    drop : (x : ℤ) → x ≡ x +ℤ c -ℤ c
    drop x = sym (+ℤ_assoc x c (neg_ℤ c) ∙ ap (λ y. x +ℤ y) (+ℤ_invr c) ∙ +ℤ_idr x)

pub neg_ℤ-*ℤ : (a b : ℤ) → neg_ℤ a *ℤ b ≡ neg_ℤ (a *ℤ b)
neg_ℤ-*ℤ a b = +ℤ_cancelʳ (neg_ℤ a *ℤ b) (neg_ℤ (a *ℤ b)) (a *ℤ b) (sym (*ℤ_distribʳ-+ℤ (neg_ℤ a) a b) ∙ ap (λ x. x *ℤ b) (+ℤ_comm (neg_ℤ a) a ∙ +ℤ_invr a) ∙ zero-*ℤ b ∙ sym (+ℤ_invr (a *ℤ b)) ∙ +ℤ_comm (a *ℤ b) (neg_ℤ (a *ℤ b)))

pub minus_one_*ℤ : (a : ℤ) → negsuc 0 *ℤ a ≡ neg_ℤ a
minus_one_*ℤ a = neg_ℤ-*ℤ (pos 1) a ∙ ap neg_ℤ (one-*ℤ a)

-- ---- associativity
assoc_suc : (a b c : ℤ) → a *ℤ b *ℤ c ≡ a *ℤ (b *ℤ c) → suc_ℤ a *ℤ b *ℤ c ≡ suc_ℤ a *ℤ (b *ℤ c)
assoc_suc a b c h =
    ap (λ x. x *ℤ c) (suc_ℤ-*ℤ a b) ∙ *ℤ_distribʳ-+ℤ (a *ℤ b) b c ∙ ap (λ x. x +ℤ b *ℤ c) h ∙ sym (suc_ℤ-*ℤ a (b *ℤ c))

assoc_pred : (a b c : ℤ) → a *ℤ b *ℤ c ≡ a *ℤ (b *ℤ c) → pred_ℤ a *ℤ b *ℤ c ≡ pred_ℤ a *ℤ (b *ℤ c)
assoc_pred a b c h =
    ap (λ x. x *ℤ c) (pred_ℤ-*ℤ a b) ∙ *ℤ_distribʳ-+ℤ (a *ℤ b) (neg_ℤ b) c ∙ (λ i. h i +ℤ neg_ℤ-*ℤ b c i) ∙ sym (pred_ℤ-*ℤ a (b *ℤ c))

assoc_zero : (b c : ℤ) → pos 0 *ℤ b *ℤ c ≡ pos 0 *ℤ (b *ℤ c)
assoc_zero b c = ap (λ x. x *ℤ c) (zero-*ℤ b) ∙ zero-*ℤ c ∙ sym (zero-*ℤ (b *ℤ c))

pub *ℤ_assoc : (a b c : ℤ) → a *ℤ b *ℤ c ≡ a *ℤ (b *ℤ c)
*ℤ_assoc (pos zero) b c = assoc_zero b c
*ℤ_assoc (pos (suc n)) b c = assoc_suc (pos n) b c (*ℤ_assoc (pos n) b c)
*ℤ_assoc (negsuc zero) b c = assoc_pred (pos zero) b c (assoc_zero b c)
*ℤ_assoc (negsuc (suc n)) b c = assoc_pred (negsuc n) b c (*ℤ_assoc (negsuc n) b c)

pub *ℤ_left_comm : (a b c : ℤ) → a *ℤ (b *ℤ c) ≡ b *ℤ (a *ℤ c)
*ℤ_left_comm a b c = sym (*ℤ_assoc a b c) ∙ ap (λ x. x *ℤ c) (*ℤ_comm a b) ∙ *ℤ_assoc b a c

pub *ℤ_swap : (a b c d : ℤ) → a *ℤ b *ℤ (c *ℤ d) ≡ a *ℤ c *ℤ (b *ℤ d)
*ℤ_swap a b c d = *ℤ_assoc a b (c *ℤ d) ∙ ap (λ x. a *ℤ x) (*ℤ_left_comm b c d) ∙ sym (*ℤ_assoc a c (b *ℤ d))
