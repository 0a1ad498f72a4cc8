-- Turns: signed areas of triangles, and points on one line.
use Rattle.std.specs.Prelude.{◌≡◌, ℤ, pos, ◌+ℤ◌, ◌-ℤ◌, ◌*ℤ◌, neg_ℤ, ◌≤ℤ◌, ◌<ℤ◌, ◌⊎◌}
use Rattle.std.proofs.Common.{arith, ap, sym, subst, inl, inr, ◌∙◌}
use Rattle.std.proofs.lemmas.Int.{ints}
use Rattle.plane.specs.Rings.{turn}
use Rattle.plane.proofs.Orders.{product_not_negative, cancelled, order_cases, scaled, le_refl}
use Rattle.std.proofs.Math.IntN.{*ℤ_comm, *ℤ-zero, zero-*ℤ}
use Rattle.plane.proofs.Sums.{parts, diff-mul, diff-sub, diff-add, neg-diff, same-diff, zero-diff}
use Rattle.plane.specs.declared.point.Point.{Point}

pub turn-cycle : (p q r : Point) → turn p q r ≡ turn q r p
turn-cycle p q r = rw (parts p.x, parts p.y, parts q.x, parts q.y, parts r.x, parts r.y) (simp (diff-mul, diff-sub) (same-diff _ _ _ _ (omega arith)))

-- from c to q, through p
pub turn-along : (c p q r : Point) → turn c q r ≡ turn c p r +ℤ turn p q r -ℤ turn c p q
turn-along c p q r =
    rw (parts c.x, parts c.y, parts p.x, parts p.y, parts q.x, parts q.y, parts r.x, parts r.y) (simp (diff-mul, diff-sub, diff-add) (same-diff _ _ _ _ (omega arith)))

pub cross-products : (a b c d e f g h : ℤ)
    → (c *ℤ f -ℤ d *ℤ e) *ℤ (a *ℤ h -ℤ b *ℤ g) +ℤ (a *ℤ d -ℤ b *ℤ c) *ℤ (e *ℤ h -ℤ f *ℤ g) ≡ (a *ℤ f -ℤ b *ℤ e) *ℤ (c *ℤ h -ℤ d *ℤ g)
cross-products a b c d e f g h =
    rw (parts a, parts b, parts c, parts d, parts e, parts f, parts g, parts h) (simp (diff-mul, diff-sub, diff-add) (same-diff _ _ _ _ (omega arith)))

-- a turn relative to its middle point
pub from_middle : (c p r : Point) → turn c p r ≡ (p.x -ℤ c.x) *ℤ (r.y -ℤ p.y) -ℤ (p.y -ℤ c.y) *ℤ (r.x -ℤ p.x)
from_middle c p r = rw (parts c.x, parts c.y, parts p.x, parts p.y, parts r.x, parts r.y) (simp (diff-mul, diff-sub) (same-diff _ _ _ _ (omega arith)))

-- four points relative to p
pub turn-products : (c p q z r : Point) → turn p q z *ℤ turn c p r +ℤ turn c p q *ℤ turn p z r ≡ turn c p z *ℤ turn p q r
turn-products c p q z r = rw (from_middle c p r, from_middle c p q, from_middle c p z) (cross-products (p.x -ℤ c.x) (p.y -ℤ c.y) (q.x -ℤ p.x) (q.y -ℤ p.y) (z.x -ℤ p.x) (z.y -ℤ p.y) (r.x -ℤ p.x) (r.y -ℤ p.y))

pub turn_back : (p q : Point) → turn p q p ≡ pos 0
turn_back p q = rw (parts p.x, parts p.y, parts q.x, parts q.y) (simp (diff-mul, diff-sub) (zero-diff _ _ (omega arith)))

pub turn_nowhere : (p r : Point) → turn p p r ≡ pos 0
turn_nowhere p r = rw (parts p.x, parts p.y, parts r.x, parts r.y) (simp (diff-mul, diff-sub) (zero-diff _ _ (omega arith)))

-- ---- numbers

-- if a positive number times a is a nonnegative number times b, then a is of b's sign or 0
pub sign_follows : (d e a b : ℤ) → pos 0 <ℤ e → pos 0 ≤ℤ d → e *ℤ a ≡ d *ℤ b → pos 0 ≤ℤ b → pos 0 ≤ℤ a
sign_follows d e a b e_above d_above same h =
    cancelled e (pos 0) a e_above (rw (*ℤ-zero e, same) (product_not_negative d b d_above h))

pub sign_follows_below : (d e a b : ℤ) → pos 0 <ℤ e → pos 0 ≤ℤ d → e *ℤ a ≡ d *ℤ b → b ≤ℤ pos 0 → a ≤ℤ pos 0
sign_follows_below d e a b e_above d_above same h =
    cancelled e a (pos 0) e_above (rw (*ℤ-zero e, same) (subst (λ z. (d *ℤ b) ≤ℤ z) (*ℤ-zero d) (scaled d b (pos 0) d_above h)))

weak : (a : ℤ) → pos 0 <ℤ a → pos 0 ≤ℤ a
weak a h = omega (arith, ints)

zero_between : (a : ℤ) → a ≤ℤ pos 0 → pos 0 ≤ℤ a → a ≡ pos 0
zero_between a h k = omega (arith, ints)

at_most_zero : (a : ℤ) → a ≡ pos 0 → a ≤ℤ pos 0
at_most_zero a e = omega (arith, ints)

at_least_zero : (a : ℤ) → a ≡ pos 0 → pos 0 ≤ℤ a
at_least_zero a e = omega (arith, ints)

pub zero_follows : (d e a b : ℤ) → pos 0 <ℤ e → pos 0 ≤ℤ d → e *ℤ a ≡ d *ℤ b → b ≡ pos 0 → a ≡ pos 0
zero_follows d e a b e_above d_above same z =
    zero_between a (sign_follows_below d e a b e_above d_above same (at_most_zero b z)) (sign_follows d e a b e_above d_above same (at_least_zero b z))

pub no_zero_product : (a b : ℤ) → a *ℤ b ≡ pos 0 → (b ≡ pos 0 → ⊥) → a ≡ pos 0
no_zero_product a b e b_not =
    order_cases b (pos 0) (a ≡ pos 0)
    (λ low. order_cases (pos 0) b (a ≡ pos 0) (λ high. absurd (b_not (zero_between b low high)))
    (λ below. by_negative below))
    (λ above. zero_between a (cancelled b a (pos 0) above (rw (*ℤ-zero b, *ℤ_comm b a, e) (le_refl (pos 0)))) (cancelled b (pos 0) a above (rw (*ℤ-zero b, *ℤ_comm b a, e) (le_refl (pos 0)))))
  where
    negated_product : (b a : ℤ) → neg_ℤ b *ℤ a ≡ neg_ℤ (b *ℤ a)
    negated_product b a = rw (parts a, parts b) (simp (diff-mul, neg-diff) (same-diff _ _ _ _ (omega arith)))

    by_negative : b <ℤ pos 0 → a ≡ pos 0
    by_negative below =
        let above : pos 0 <ℤ neg_ℤ b = omega (arith, ints) in
        let zero : neg_ℤ b *ℤ a ≡ pos 0 = negated_product b a ∙ ap neg_ℤ (*ℤ_comm b a ∙ e) in
        zero_between a (cancelled (neg_ℤ b) a (pos 0) above (rw (*ℤ-zero (neg_ℤ b), zero) (le_refl (pos 0)))) (cancelled (neg_ℤ b) (pos 0) a above (rw (*ℤ-zero (neg_ℤ b), zero) (le_refl (pos 0))))

-- ---- points on one line

at_x : Point → Point
at_x p = record { x = p.x +ℤ pos 1; y = p.y }

at_y : Point → Point
at_y p = record { x = p.x; y = p.y +ℤ pos 1 }

turn_at_x : (p q : Point) → turn p q (at_x p) ≡ p.y -ℤ q.y
unfolding at_x
turn_at_x p q = one (q.x -ℤ p.x) p.y q.y p.x
  where
    one : (k a b c : ℤ) → k *ℤ (a -ℤ a) -ℤ (b -ℤ a) *ℤ ((c +ℤ pos 1) -ℤ c) ≡ a -ℤ b
    one k a b c =
        let flat : a -ℤ a ≡ pos 0 = omega (arith, ints) in
        let step : (c +ℤ pos 1) -ℤ c ≡ pos 1 = omega (arith, ints) in
        rw (flat, step) (omega (arith, ints))

turn_at_y : (p q : Point) → turn p q (at_y p) ≡ q.x -ℤ p.x
unfolding at_y
turn_at_y p q = one (q.x -ℤ p.x) (q.y -ℤ p.y) p.y p.x
  where
    one : (k l a c : ℤ) → k *ℤ ((a +ℤ pos 1) -ℤ a) -ℤ l *ℤ (c -ℤ c) ≡ k
    one k l a c =
        let flat : c -ℤ c ≡ pos 0 = omega (arith, ints) in
        let step : (a +ℤ pos 1) -ℤ a ≡ pos 1 = omega (arith, ints) in
        rw (flat, step) (omega (arith, ints))

abbrev point_at : ℤ → ℤ → Point
point_at x y = record { x = x; y = y }

same_at : (a b c d : ℤ) → a ≡ c → b ≡ d → point_at a b ≡ point_at c d
same_at a b c d e f = cc

pub same_point : (p q : Point) → p.x ≡ q.x → p.y ≡ q.y → p ≡ q
same_point p q e f = same_at p.x p.y q.x q.y e f

-- some point is off the line through two distinct points
pub off_line : (p q : Point) → (p ≡ q → ⊥) → ((r : Point) → turn p q r ≡ pos 0) → ⊥
off_line p q differ all =
    differ (same_point p q (from_x _ _ (sym (turn_at_y p q) ∙ all (at_y p))) (from_y _ _ (sym (turn_at_x p q) ∙ all (at_x p))))
  where
    from_x : (a b : ℤ) → b -ℤ a ≡ pos 0 → a ≡ b
    from_x a b e = omega (arith, ints)

    from_y : (a b : ℤ) → a -ℤ b ≡ pos 0 → a ≡ b
    from_y a b e = omega (arith, ints)

-- two points on the line through p and q are on one line with p
middle : (p q b c : Point) → (p ≡ q → ⊥) → turn p q b ≡ pos 0 → turn p q c ≡ pos 0 → turn p b c ≡ pos 0
middle p q b c differ hb hc =
    order_cases (turn p b c) (pos 0) _
    (λ low. order_cases (pos 0) (turn p b c) _ (λ high. zero_between _ low high) (λ below. absurd (apart (λ e. strict_below _ below e))))
    (λ above. absurd (apart (λ e. strict_above _ above e)))
  where
    strict_below : (a : ℤ) → a <ℤ pos 0 → a ≡ pos 0 → ⊥
    strict_below a h e = omega (arith, ints)

    strict_above : (a : ℤ) → pos 0 <ℤ a → a ≡ pos 0 → ⊥
    strict_above a h e = omega (arith, ints)

    sum_zero : (a b d : ℤ) → a ≡ pos 0 → d ≡ pos 0 → b +ℤ a ≡ d → b ≡ pos 0
    sum_zero a b d e f g = omega (arith, ints)

    products : (r : Point) → turn p b c *ℤ turn p q r +ℤ turn p q b *ℤ turn p c r ≡ turn p q c *ℤ turn p b r
    products r = cross-products (q.x -ℤ p.x) (q.y -ℤ p.y) (b.x -ℤ p.x) (b.y -ℤ p.y) (c.x -ℤ p.x) (c.y -ℤ p.y) (r.x -ℤ p.x) (r.y -ℤ p.y)

    apart : (turn p b c ≡ pos 0 → ⊥) → ⊥
    apart not = off_line p q differ (λ r. no_zero_product (turn p q r) (turn p b c)
        (*ℤ_comm (turn p q r) (turn p b c) ∙ sum_zero (turn p q b *ℤ turn p c r) (turn p b c *ℤ turn p q r) (turn p q c *ℤ turn p b r)
        (ap (λ z. z *ℤ turn p c r) hb ∙ zero-*ℤ (turn p c r)) (ap (λ z. z *ℤ turn p b r) hc ∙ zero-*ℤ (turn p b r)) (products r))
        not)

pub on_one_line : (p q a b c : Point) → (p ≡ q → ⊥) → turn p q a ≡ pos 0 → turn p q b ≡ pos 0 → turn p q c ≡ pos 0 → turn a b c ≡ pos 0
on_one_line p q a b c differ ha hb hc = from_along _ _ _ _ (turn-along p a b c) (middle p q b c differ hb hc) (middle p q a c differ ha hc) (middle p q a b differ ha hb)
  where
    from_along : (w x y z : ℤ) → w ≡ x +ℤ y -ℤ z → w ≡ pos 0 → x ≡ pos 0 → z ≡ pos 0 → y ≡ pos 0
    from_along w x y z e f g h = omega (arith, ints)

-- ---- a path that goes straight on

-- the path from c to p goes straight on to q: z is left of it, and q is not p
pub record GoesStraight (c p q z : Point) : Type 0 where
  pub straight : turn c p q ≡ pos 0
  pub left : pos 0 <ℤ turn c p z
  pub left_after : pos 0 ≤ℤ turn p q z
  pub differ : p ≡ q → ⊥

-- how the turns on c to p, p to q and c to q then relate
pub straight_products : (c p q z r : Point) → GoesStraight c p q z → turn p q z *ℤ turn c p r ≡ turn c p z *ℤ turn p q r
straight_products c p q z r h = dropped _ _ _ (turn-products c p q z r) (ap (λ k. k *ℤ turn p z r) h.straight ∙ zero-*ℤ (turn p z r))
  where
    dropped : (a b d : ℤ) → a +ℤ b ≡ d → b ≡ pos 0 → a ≡ d
    dropped a b d e f = omega (arith, ints)

pub straight_left : (c p q z : Point) → GoesStraight c p q z → pos 0 <ℤ turn p q z
straight_left c p q z h = order_cases (turn p q z) (pos 0) _
    (λ low. absurd (off_line p q h.differ (λ r. nowhere r (zero_between _ low h.left_after))))
    (λ above. above)
  where
    strict_above : (a : ℤ) → pos 0 <ℤ a → a ≡ pos 0 → ⊥
    strict_above a h e = omega (arith, ints)

    nowhere : (r : Point) → turn p q z ≡ pos 0 → turn p q r ≡ pos 0
    nowhere r e = no_zero_product (turn p q r) (turn c p z)
        (*ℤ_comm (turn p q r) (turn c p z) ∙ sym (straight_products c p q z r h) ∙ ap (λ k. k *ℤ turn c p r) e ∙ zero-*ℤ (turn c p r))
        (λ e. strict_above _ h.left e)

sum_of : (c p q z r : Point) → GoesStraight c p q z → turn c q r ≡ turn c p r +ℤ turn p q r
sum_of c p q z r h = dropped (turn c q r) (turn c p r) (turn p q r) (turn c p q) (turn-along c p q r) h.straight
  where
    dropped : (w x y k : ℤ) → w ≡ x +ℤ y -ℤ k → k ≡ pos 0 → w ≡ x +ℤ y
    dropped w x y k e f = omega (arith, ints)

-- what is left of p to q is left of c to q
pub straight_keeps_left : (c p q z r : Point) → GoesStraight c p q z → pos 0 ≤ℤ turn p q r → pos 0 ≤ℤ turn c q r
straight_keeps_left c p q z r h k =
    rw (sum_of c p q z r h) (sum_above _ _ (sign_follows (turn c p z) (turn p q z) (turn c p r) (turn p q r) (straight_left c p q z h) (weak _ h.left) (straight_products c p q z r h) k) k)
  where
    sum_above : (a b : ℤ) → pos 0 ≤ℤ a → pos 0 ≤ℤ b → pos 0 ≤ℤ (a +ℤ b)
    sum_above a b h k = omega (arith, ints)

pub straight_strict : (c p q z : Point) → GoesStraight c p q z → pos 0 <ℤ turn c q z
straight_strict c p q z h = rw (sum_of c p q z z h) (sum_above _ _ h.left h.left_after)
  where
    sum_above : (a b : ℤ) → pos 0 <ℤ a → pos 0 ≤ℤ b → pos 0 <ℤ (a +ℤ b)
    sum_above a b h k = omega (arith, ints)

-- what is on the line from c to q is on those from c to p and from p to q
pub straight_on_line : (c p q z r : Point) → GoesStraight c p q z → turn c q r ≡ pos 0 → (turn c p r ≡ pos 0) × (turn p q r ≡ pos 0)
straight_on_line c p q z r h e =
    let same = straight_products c p q z r h in
    let sum : turn c p r +ℤ turn p q r ≡ pos 0 = sym (sum_of c p q z r h) ∙ e in
    let after = straight_left c p q z h in
    order_cases (turn p q r) (pos 0) _
    (λ low. both _ _ sum (inl (low, sign_follows_below (turn c p z) (turn p q z) (turn c p r) (turn p q r) after (weak _ h.left) same low)))
    (λ above. both _ _ sum (inr (weak _ above, sign_follows (turn c p z) (turn p q z) (turn c p r) (turn p q r) after (weak _ h.left) same (weak _ above))))
  where
    both : (a b : ℤ) → a +ℤ b ≡ pos 0 → ((b ≤ℤ pos 0) × (a ≤ℤ pos 0)) ⊎ ((pos 0 ≤ℤ b) × (pos 0 ≤ℤ a)) → (a ≡ pos 0) × (b ≡ pos 0)
    both a b e (inl (h, k)) = (omega (arith, ints), omega (arith, ints))
    both a b e (inr (h, k)) = (omega (arith, ints), omega (arith, ints))

pub straight_line_on : (c p q z r : Point) → GoesStraight c p q z → turn p q r ≡ pos 0 → turn c q r ≡ pos 0
straight_line_on c p q z r h e =
    sum_of c p q z r h ∙ sum_zero _ _ (zero_follows (turn c p z) (turn p q z) (turn c p r) (turn p q r) (straight_left c p q z h) (weak _ h.left) (straight_products c p q z r h) e) e
  where
    sum_zero : (a b : ℤ) → a ≡ pos 0 → b ≡ pos 0 → a +ℤ b ≡ pos 0
    sum_zero a b e f = omega (arith, ints)
