-- Products and the order of integers.
use Rattle.std.specs.Prelude.{◌≡◌, ℕ, ◌+◌, ◌*◌, ◌≤◌, ℤ, pos, negsuc, ◌+ℤ◌, ◌-ℤ◌, ◌*ℤ◌, neg_ℤ, ◌≤ℤ◌, ◌<ℤ◌, unsigned_abs, IsTrue, false}
use Rattle.std.proofs.Common.{arith, suc, zero}
use Rattle.std.proofs.lemmas.Int.{ints, unsigned_abs-mul, by_lt_z}
use Rattle.std.proofs.lemmas.Nat.{mul-le}
use Rattle.std.proofs.lemmas.Bool.{false≢true}
use Rattle.std.proofs.Math.IntN.{*ℤ_comm, zero-*ℤ}
use Rattle.plane.proofs.Sums.{parts, diff-mul, diff-sub, diff-add, neg-diff, same-diff}

-- a product of two nonnegative numbers is nonnegative
pub product_not_negative : (a b : ℤ) → pos 0 ≤ℤ a → pos 0 ≤ℤ b → pos 0 ≤ℤ (a *ℤ b)
product_not_negative (pos a) (pos b) h k = omega (arith, ints)
product_not_negative (pos a) (negsuc b) h k = absurd (omega (arith, ints, k))
product_not_negative (negsuc a) b h k = absurd (omega (arith, ints, h))

pub product_positive : (a b : ℤ) → pos 0 <ℤ a → pos 0 <ℤ b → pos 0 <ℤ (a *ℤ b)
product_positive (pos (suc a)) (pos (suc b)) h k = omega (arith, ints)
product_positive (pos zero) b h k = absurd (omega (arith, ints, h))
product_positive (pos (suc a)) (pos zero) h k = absurd (omega (arith, ints, k))
product_positive (pos (suc a)) (negsuc b) h k = absurd (omega (arith, ints, k))
product_positive (negsuc a) b h k = absurd (omega (arith, ints, h))

-- a factor times a difference
pub mul-sub : (k a b : ℤ) → k *ℤ (b -ℤ a) ≡ k *ℤ b -ℤ k *ℤ a
mul-sub k a b = rw (parts k, parts a, parts b) (simp (diff-mul, diff-sub) (same-diff _ _ _ _ (omega arith)))

-- moving the factors of a product
pub swap_left : (a b c : ℤ) → a *ℤ (b *ℤ c) ≡ b *ℤ (a *ℤ c)
swap_left a b c = rw (parts a, parts b, parts c) (simp diff-mul (same-diff _ _ _ _ (omega arith)))

pub swap_ends : (a b c : ℤ) → a *ℤ (b *ℤ c) ≡ c *ℤ (b *ℤ a)
swap_ends a b c = rw (parts a, parts b, parts c) (simp diff-mul (same-diff _ _ _ _ (omega arith)))

pub le_trans : (a b c : ℤ) → a ≤ℤ b → b ≤ℤ c → a ≤ℤ c
le_trans a b c h k = omega (arith, ints)

-- an inequality times a nonnegative factor
pub scaled : (k a b : ℤ) → pos 0 ≤ℤ k → a ≤ℤ b → (k *ℤ a) ≤ℤ (k *ℤ b)
scaled k a b h e =
    let above : pos 0 ≤ℤ (k *ℤ (b -ℤ a)) = product_not_negative k (b -ℤ a) h (omega (arith, ints)) in
    omega (arith, ints, mul-sub k a b)

-- of two numbers, the first is at most the second, or the second is below the first
pub order_cases : (a b : ℤ) (P : Type 0) → (a ≤ℤ b → P) → (b <ℤ a → P) → P
order_cases a b P f g = by_lt_z b a g f

pub weak_lt : (a b : ℤ) → a <ℤ b → a ≤ℤ b
weak_lt a b h = omega (arith, ints)

-- a positive factor can be cancelled
pub cancelled : (k a b : ℤ) → pos 0 <ℤ k → (k *ℤ a) ≤ℤ (k *ℤ b) → a ≤ℤ b
cancelled k a b h e = order_cases a b (a ≤ℤ b) (λ le. le)
    (λ gt. let above : pos 0 <ℤ (k *ℤ (a -ℤ b)) = product_positive k (a -ℤ b) h (omega (arith, ints)) in
    absurd (omega (arith, ints, mul-sub k b a)))

-- a bound on the size of a product
pub size-mul : (a b : ℤ) (m n : ℕ) → unsigned_abs a ≤ m → unsigned_abs b ≤ n → unsigned_abs (a *ℤ b) ≤ m * n
size-mul a b m n h k = rw (unsigned_abs-mul a b) (mul-le _ _ m n h k)

-- a bound on the size of a difference of two products
pub size-cross : (a b c d : ℤ) (m n k l : ℕ) → unsigned_abs a ≤ m → unsigned_abs b ≤ n → unsigned_abs c ≤ k → unsigned_abs d ≤ l → unsigned_abs (a *ℤ b -ℤ c *ℤ d) ≤ m * n + k * l
size-cross a b c d m n k l ha hb hc hd = difference (a *ℤ b) (c *ℤ d) (m * n) (k * l) (size-mul a b m n ha hb) (size-mul c d k l hc hd)
  where
    difference : (x y : ℤ) (p q : ℕ) → unsigned_abs x ≤ p → unsigned_abs y ≤ q → unsigned_abs (x -ℤ y) ≤ p + q
    difference x y p q h k = omega (arith, ints)

-- the tighter of two bounds on t/w implies the other
pub tighter_implies : (m c n d t w : ℤ) → pos 0 <ℤ m → pos 0 <ℤ n → pos 0 <ℤ w → (c *ℤ n) ≤ℤ (d *ℤ m) → (m *ℤ t) ≤ℤ (c *ℤ w) → (n *ℤ t) ≤ℤ (d *ℤ w)
tighter_implies m c n d t w m_above n_above w_above less holds =
    let first : (n *ℤ (m *ℤ t)) ≤ℤ (n *ℤ (c *ℤ w)) = scaled n _ _ (omega (arith, ints)) holds in
    let second : (w *ℤ (c *ℤ n)) ≤ℤ (w *ℤ (d *ℤ m)) = scaled w _ _ (omega (arith, ints)) less in
    cancelled m _ _ m_above (rw (swap_left m n t, swap_ends m d w) (le_trans _ (n *ℤ (c *ℤ w)) _ first (rw (swap_ends n c w) second)))

-- what a failed comparison says
pub below_otherwise : (a b : ℤ) → (a ≤ℤ b → IsTrue false) → b <ℤ a
below_otherwise a b refused = order_cases a b (b <ℤ a) (λ le. absurd (false≢true (refused le))) (λ gt. gt)

pub at_most_otherwise : (a b : ℤ) → (a ≤ℤ b → IsTrue false) → b ≤ℤ a
at_most_otherwise a b refused = let less : b <ℤ a = below_otherwise a b refused in omega (arith, ints)

-- if some t/w is within a bound on -t and one on t, the end of the first is within the second
between : (m c n d t w : ℤ) → w *ℤ (n *ℤ neg_ℤ c) +ℤ n *ℤ (c *ℤ w) ≡ n *ℤ (m *ℤ neg_ℤ t) +ℤ m *ℤ (n *ℤ t)
between m c n d t w = rw (parts m, parts c, parts n, parts t, parts w) (simp (diff-mul, diff-add, neg-diff) (same-diff _ _ _ _ (omega arith)))

pub end_within : (m c n d t w : ℤ) → pos 0 <ℤ m → pos 0 <ℤ n → pos 0 <ℤ w → (m *ℤ neg_ℤ t) ≤ℤ (c *ℤ w) → (n *ℤ t) ≤ℤ (d *ℤ w) → (n *ℤ neg_ℤ c) ≤ℤ (d *ℤ m)
end_within m c n d t w m_above n_above w_above low high =
    let first : (n *ℤ (m *ℤ neg_ℤ t)) ≤ℤ (n *ℤ (c *ℤ w)) = scaled n _ _ (omega (arith, ints)) low in
    let second : (m *ℤ (n *ℤ t)) ≤ℤ (m *ℤ (d *ℤ w)) = scaled m _ _ (omega (arith, ints)) high in
    cancelled w _ _ w_above (rw (swap_ends w d m) (linear _ _ _ _ _ (between m c n d t w) first second))
  where
    linear : (a b p q r : ℤ) → a +ℤ b ≡ p +ℤ q → p ≤ℤ b → q ≤ℤ r → a ≤ℤ r
    linear a b p q r e h k = omega (arith, ints)

pub neg-mul-neg : (a b : ℤ) → neg_ℤ a *ℤ neg_ℤ b ≡ a *ℤ b
neg-mul-neg a b = rw (parts a, parts b) (simp (diff-mul, neg-diff) (same-diff _ _ _ _ (omega arith)))

-- a combination of two rows that removes x
removed_left : (a₁ b₁ a₂ b₂ x y : ℤ) → neg_ℤ a₂ *ℤ (a₁ *ℤ x +ℤ b₁ *ℤ y) +ℤ a₁ *ℤ (a₂ *ℤ x +ℤ b₂ *ℤ y) ≡ (a₁ *ℤ b₂ -ℤ a₂ *ℤ b₁) *ℤ y
removed_left a₁ b₁ a₂ b₂ x y = rw (parts a₁, parts b₁, parts a₂, parts b₂, parts x, parts y) (simp (diff-mul, diff-add, diff-sub, neg-diff) (same-diff _ _ _ _ (omega arith)))

removed_right : (a₁ c₁ a₂ c₂ w : ℤ) → neg_ℤ a₂ *ℤ (c₁ *ℤ w) +ℤ a₁ *ℤ (c₂ *ℤ w) ≡ (a₁ *ℤ c₂ -ℤ a₂ *ℤ c₁) *ℤ w
removed_right a₁ c₁ a₂ c₂ w = rw (parts a₁, parts c₁, parts a₂, parts c₂, parts w) (simp (diff-mul, diff-add, diff-sub, neg-diff) (same-diff _ _ _ _ (omega arith)))

pub removed : (a₁ b₁ c₁ a₂ b₂ c₂ x y w : ℤ) → pos 0 <ℤ a₁ → a₂ <ℤ pos 0 → (a₁ *ℤ x +ℤ b₁ *ℤ y) ≤ℤ (c₁ *ℤ w) → (a₂ *ℤ x +ℤ b₂ *ℤ y) ≤ℤ (c₂ *ℤ w)
    → ((a₁ *ℤ b₂ -ℤ a₂ *ℤ b₁) *ℤ y) ≤ℤ ((a₁ *ℤ c₂ -ℤ a₂ *ℤ c₁) *ℤ w)
removed a₁ b₁ c₁ a₂ b₂ c₂ x y w above below first second =
    let one : (neg_ℤ a₂ *ℤ (a₁ *ℤ x +ℤ b₁ *ℤ y)) ≤ℤ (neg_ℤ a₂ *ℤ (c₁ *ℤ w)) = scaled (neg_ℤ a₂) _ _ (omega (arith, ints)) first in
    let two : (a₁ *ℤ (a₂ *ℤ x +ℤ b₂ *ℤ y)) ≤ℤ (a₁ *ℤ (c₂ *ℤ w)) = scaled a₁ _ _ (omega (arith, ints)) second in
    rw (← removed_left a₁ b₁ a₂ b₂ x y, ← removed_right a₁ c₁ a₂ c₂ w) (sum_le _ _ _ _ one two)
  where
    sum_le : (a b c d : ℤ) → a ≤ℤ b → c ≤ℤ d → (a +ℤ c) ≤ℤ (b +ℤ d)
    sum_le a b c d h k = omega (arith, ints)

-- being closer is transitive
pub closer_trans : (r a s b t d : ℤ) → pos 0 ≤ℤ a → pos 0 <ℤ b → pos 0 ≤ℤ d → (r *ℤ b) ≤ℤ (s *ℤ a) → (s *ℤ d) ≤ℤ (t *ℤ b) → (r *ℤ d) ≤ℤ (t *ℤ a)
closer_trans r a s b t d a_above b_above d_above first second =
    let one : (d *ℤ (r *ℤ b)) ≤ℤ (d *ℤ (s *ℤ a)) = scaled d _ _ d_above first in
    let two : (a *ℤ (s *ℤ d)) ≤ℤ (a *ℤ (t *ℤ b)) = scaled a _ _ a_above second in
    cancelled b _ _ b_above (rw (swap_ends b r d, swap_ends b t a) (le_trans _ (d *ℤ (s *ℤ a)) _ one (rw (swap_ends d s a) two)))

-- the rightmost point that a row (a, b, c) allows at the height y/w, in the terms of another row
-- (d, e, f)
pub below_right : (x a e f y w : ℤ) → (d : ℤ) → (x *ℤ d) ≤ℤ ((f *ℤ w -ℤ e *ℤ y) *ℤ a) → (d *ℤ x +ℤ e *ℤ (y *ℤ a)) ≤ℤ (f *ℤ (w *ℤ a))
below_right x a e f y w d h =
    let one : (f *ℤ w -ℤ e *ℤ y) *ℤ a ≡ f *ℤ (w *ℤ a) -ℤ e *ℤ (y *ℤ a) =
    rw (parts a, parts e, parts f, parts y, parts w) (simp (diff-mul, diff-sub) (same-diff _ _ _ _ (omega arith))) in
    let held : (d *ℤ x) ≤ℤ (f *ℤ (w *ℤ a) -ℤ e *ℤ (y *ℤ a)) = rw (*ℤ_comm d x, ← one) h in
    moved _ _ _ held
  where
    moved : (p q r : ℤ) → p ≤ℤ (r -ℤ q) → (p +ℤ q) ≤ℤ r
    moved p q r h = omega (arith, ints)

pub on_level : (x a e f y w : ℤ) → pos 0 ≤ℤ a → (e *ℤ y) ≤ℤ (f *ℤ w) → (pos 0 *ℤ x +ℤ e *ℤ (y *ℤ a)) ≤ℤ (f *ℤ (w *ℤ a))
on_level x a e f y w above h =
    let held : (a *ℤ (y *ℤ e)) ≤ℤ (a *ℤ (w *ℤ f)) = scaled a (y *ℤ e) (w *ℤ f) above (rw (*ℤ_comm y e, *ℤ_comm w f) h) in
    rw (zero-*ℤ x, swap_ends e y a, swap_ends f w a) (added _ _ held)
  where
    added : (p q : ℤ) → p ≤ℤ q → (pos 0 +ℤ p) ≤ℤ q
    added p q h = omega (arith, ints)

pub above_left : (a b c d e f y w : ℤ) → ((a *ℤ e -ℤ d *ℤ b) *ℤ y) ≤ℤ ((a *ℤ f -ℤ d *ℤ c) *ℤ w) → (d *ℤ (c *ℤ w -ℤ b *ℤ y) +ℤ e *ℤ (y *ℤ a)) ≤ℤ (f *ℤ (w *ℤ a))
above_left a b c d e f y w h =
    let one : (a *ℤ e -ℤ d *ℤ b) *ℤ y ≡ e *ℤ (y *ℤ a) -ℤ d *ℤ (b *ℤ y) =
    rw (parts a, parts b, parts d, parts e, parts y) (simp (diff-mul, diff-sub) (same-diff _ _ _ _ (omega arith))) in
    let two : (a *ℤ f -ℤ d *ℤ c) *ℤ w ≡ f *ℤ (w *ℤ a) -ℤ d *ℤ (c *ℤ w) =
    rw (parts a, parts c, parts d, parts f, parts w) (simp (diff-mul, diff-sub) (same-diff _ _ _ _ (omega arith))) in
    let held : (e *ℤ (y *ℤ a) -ℤ d *ℤ (b *ℤ y)) ≤ℤ (f *ℤ (w *ℤ a) -ℤ d *ℤ (c *ℤ w)) = rw (← one, ← two) h in
    rw (mul-sub d (b *ℤ y) (c *ℤ w)) (moved _ _ _ _ held)
  where
    moved : (p q r s : ℤ) → (p -ℤ q) ≤ℤ (r -ℤ s) → ((s -ℤ q) +ℤ p) ≤ℤ r
    moved p q r s h = omega (arith, ints)

pub le_refl : (a : ℤ) → a ≤ℤ a
le_refl a = omega (arith, ints)
