-- Lists that are shared out by a mask.
use Rattle.std.specs.Prelude.{count_ones}
use Rattle.std.proofs.Common.{◌≡◌, ◌≢◌, ℕ, zero, suc, ◌+◌, ◌*◌, ◌/◌, ◌%◌, ◌^◌, ◌<◌, ◌≤◌, List, [], ◌∷◌, ◌++◌, length, slice_get, slice_index_or, take, take_all, zip, map, Option, Some, IsBitSet, refl, sym, ap, subst, ◌∙◌, arith}
use Rattle.std.proofs.lemmas.List.{length_push}
use Rattle.std.proofs.lemmas.Nat.{pow_pos, bit_set_by_shift}
use Rattle.std.proofs.lemmas.Nat.Bits.{shr_and_one}
use lib.Arith.{mod-mul}
use lib.Count.{ones_cat}
use native.Mathlib.Nat.{mod-lt, mod-eq_of_lt, two-pow-succ}
use Rattle.node_arena.specs.declared.handle.Handle.{Handle}
use Rattle.tree_theory.proofs.ShapeLists.{parted_sizes}
use Rattle.tree_theory.specs.Changes.{IsHalved}
use Rattle.tree_theory.specs.Lists.{Parted}
use Rattle.tree_theory.specs.Lists.Parted.{none as no_parts, to_one, to_other}
use Rattle.tree_theory.specs.Nodes.{PlainBody, entries_of, children_of}
use Rattle.tree_theory.specs.Nodes.PlainBody.{Leaf, Inner}
use Rattle.tree_theory.specs.declared.TheConstants.{NODE_SIZE}
use Rattle.tree_nodes.specs.Halvings.{GoBySides, IsPickedOut, IsShared}
use Rattle.tree_nodes.specs.Halvings.GoBySides.{none, goes, stays}
use Rattle.tree_nodes.specs.Halvings.IsPickedOut.{of_entries}
use Rattle.tree_nodes.proofs.ListEnds.{take_one}
use Rattle.tree_nodes.proofs.Zips.{length_aligned, zip_keys}

-- ---- the lowest bits of a mask

one_bit : count_ones 1 ≡ 1
unfolding lib.Count.ones
one_bit = refl

no_bit : count_ones 0 ≡ 0
unfolding lib.Count.ones
no_bit = refl

-- one more bit of a mask
ones_more : (mask n : ℕ) → count_ones (mask % 2 ^ (n + 1)) ≡ count_ones (mask / 2 ^ n % 2) + count_ones (mask % 2 ^ n)
ones_more mask n =
    let some = pow_pos n in
    let next : n + 1 ≡ suc n = omega arith in
    let doubled : 2 ^ suc n ≡ 2 * 2 ^ n = omega (arith, two-pow-succ n) in
    let twice : 2 ^ (n + 1) ≡ 2 * 2 ^ n = ap (λ x. 2 ^ x) next ∙ doubled in
    ap count_ones (ap (λ x. mask % x) twice ∙ mod-mul mask (omega arith) some) ∙ ones_cat n (mask / 2 ^ n % 2) (mask % 2 ^ n) (mod-lt mask some)

ones_set : (mask n : ℕ) → IsBitSet mask n → count_ones (mask % 2 ^ (n + 1)) ≡ count_ones (mask % 2 ^ n) + 1
ones_set mask n set =
    let one : mask / 2 ^ n % 2 ≡ 1 = sym (shr_and_one mask n) ∙ (bit_set_by_shift mask n).1 set in
    let more = ones_more mask n in
    let counted : count_ones (mask / 2 ^ n % 2) ≡ 1 = ap count_ones one ∙ one_bit in
    omega (arith, more, counted)

ones_not : (mask n : ℕ) → (IsBitSet mask n → ⊥) → count_ones (mask % 2 ^ (n + 1)) ≡ count_ones (mask % 2 ^ n)
ones_not mask n unset =
    let low : mask / 2 ^ n % 2 < 2 = mod-lt (mask / 2 ^ n) (omega arith) in
    let not_one : mask / 2 ^ n % 2 ≢ 1 = λ e. unset ((bit_set_by_shift mask n).0 (shr_and_one mask n ∙ e)) in
    let zero_is : mask / 2 ^ n % 2 ≡ 0 = omega (arith, low, not_one) in
    let more = ones_more mask n in
    let counted : count_ones (mask / 2 ^ n % 2) ≡ 0 = ap count_ones zero_is ∙ no_bit in
    omega (arith, more, counted)

-- ---- the first elements

-- the first n elements of a list are shared out
pub record IsSharedUpTo {T : Type 0} (mask n : ℕ) (first left right : List T) : Type 0 where
  pub sides : GoBySides mask 0 first left right
  pub long : length first ≡ n
  pub many : length right ≡ count_ones (mask % 2 ^ n)

module _ {T : Type 0} (mask : ℕ) where
  -- one more element, of index `n`
  last_goes : {place n : ℕ} {first left right : List T} (x : T) → place + length first ≡ n → IsBitSet mask n → GoBySides mask place first left right → GoBySides mask place (first ++ x ∷ []) left (right ++ x ∷ [])
  last_goes {place = place} x at set none = let here : place + 0 ≡ place = omega arith in goes (subst (λ k. IsBitSet mask k) (sym at ∙ here) set) none
  last_goes {place = place} x at set (goes {whole = whole} bit rest) = let next : place + 1 + length whole ≡ place + suc (length whole) = omega arith in goes bit (last_goes x (next ∙ at) set rest)
  last_goes {place = place} x at set (stays {whole = whole} bit rest) = let next : place + 1 + length whole ≡ place + suc (length whole) = omega arith in stays bit (last_goes x (next ∙ at) set rest)

  last_stays : {place n : ℕ} {first left right : List T} (x : T) → place + length first ≡ n → (IsBitSet mask n → ⊥) → GoBySides mask place first left right → GoBySides mask place (first ++ x ∷ []) (left ++ x ∷ []) right
  last_stays {place = place} x at unset none = let here : place + 0 ≡ place = omega arith in stays (subst (λ k. IsBitSet mask k → ⊥) (sym at ∙ here) unset) none
  last_stays {place = place} x at unset (goes {whole = whole} bit rest) = let next : place + 1 + length whole ≡ place + suc (length whole) = omega arith in goes bit (last_stays x (next ∙ at) unset rest)
  last_stays {place = place} x at unset (stays {whole = whole} bit rest) = let next : place + 1 + length whole ≡ place + suc (length whole) = omega arith in stays bit (last_stays x (next ∙ at) unset rest)

  pub parted_by_sides : {place : ℕ} {whole left right : List T} → GoBySides mask place whole left right → Parted whole left right
  parted_by_sides none = no_parts
  parted_by_sides (goes bit rest) = to_other (parted_by_sides rest)
  parted_by_sides (stays bit rest) = to_one (parted_by_sides rest)

  pub shared_none : (left right : List T) → left ≡ [] → right ≡ [] → IsSharedUpTo mask 0 [] left right
  shared_none left right no_left no_right = rw (no_left, no_right) (record { sides = none; long = refl; many = sym (ap count_ones nothing ∙ no_bit) })
    where
      nothing : mask % 2 ^ 0 ≡ 0
      nothing = omega arith

  pub shared_right : (n : ℕ) (first left right : List T) (x : T) → IsBitSet mask n → IsSharedUpTo mask n first left right → IsSharedUpTo mask (n + 1) (first ++ x ∷ []) left (right ++ x ∷ [])
  shared_right n first left right x set s =
      let longer = length_push first x in
      let more = length_push right x in
      let counted = ones_set mask n set in
      let long = s.long in
      let many = s.many in
      record { sides = last_goes x (omega (arith, long)) set s.sides; long = omega (arith, longer, long); many = omega (arith, more, counted, many) }

  pub shared_left : (n : ℕ) (first left right : List T) (x : T) → (IsBitSet mask n → ⊥) → IsSharedUpTo mask n first left right → IsSharedUpTo mask (n + 1) (first ++ x ∷ []) (left ++ x ∷ []) right
  shared_left n first left right x unset s =
      let longer = length_push first x in
      let counted = ones_not mask n unset in
      let long = s.long in
      let many = s.many in
      record { sides = last_stays x (omega (arith, long)) unset s.sides; long = omega (arith, longer, long); many = omega (arith, counted, many) }

  -- neither part is longer than the list
  pub right_fits : (n : ℕ) (first left right : List T) → IsSharedUpTo mask n first left right → length right ≤ n
  right_fits n first left right s = let sizes = parted_sizes (parted_by_sides s.sides) in let long = s.long in omega (arith, sizes, long)

  pub left_fits : (n : ℕ) (first left right : List T) → IsSharedUpTo mask n first left right → length left ≤ n
  left_fits n first left right s = let sizes = parted_sizes (parted_by_sides s.sides) in let long = s.long in omega (arith, sizes, long)

  pub shared_all : (whole left right : List T) → mask < 2 ^ 16 → IsSharedUpTo mask 16 whole left right → IsShared mask whole left right
  shared_all whole left right fits s = record { sides = s.sides; many = s.many ∙ ap count_ones (mod-eq_of_lt fits) }

-- ---- a list of keys and a list of children

module _ {K : Type 0} (mask : ℕ) where
  -- the pair at an index of both lists
  zipped_at : (keys : List K) (children : List Handle) (i : ℕ) (key : K) (d : Handle) → i < length children → slice_get keys i ≡ Some key → slice_get (zip keys children) i ≡ Some (key, slice_index_or children i d)
  zipped_at [] children i key d lt e = absurd (cc e)
  zipped_at (k ∷ keys) [] i key d lt e = absurd (omega arith)
  zipped_at (k ∷ keys) (x ∷ children) zero key d lt e = first k key e
    where
      first : (a b : K) → Some a ≡ Some b → ◌≡◌ {A = Option (K × Handle)} (Some (a, x)) (Some (b, x))
      first a b same = cc same
  zipped_at (k ∷ keys) (x ∷ children) (suc i) key d lt e = zipped_at keys children i key d (omega arith) e

  pub zipped_right : (keys : List K) (children : List Handle) (n : ℕ) (left right : List (K × Handle)) (key : K) (d : Handle) → n < length children → slice_get keys n ≡ Some key → IsBitSet mask n → IsSharedUpTo mask n (take n (zip keys children)) left right → IsSharedUpTo mask (n + 1) (take (n + 1) (zip keys children)) left (right ++ (key, slice_index_or children n d) ∷ [])
  zipped_right keys children n left right key d lt at set s = rw (take_one (zip keys children) n (key, slice_index_or children n d) (zipped_at keys children n key d lt at)) (shared_right mask n (take n (zip keys children)) left right (key, slice_index_or children n d) set s)

  pub zipped_left : (keys : List K) (children : List Handle) (n : ℕ) (left right : List (K × Handle)) (key : K) (d : Handle) → n < length children → slice_get keys n ≡ Some key → (IsBitSet mask n → ⊥) → IsSharedUpTo mask n (take n (zip keys children)) left right → IsSharedUpTo mask (n + 1) (take (n + 1) (zip keys children)) (left ++ (key, slice_index_or children n d) ∷ []) right
  zipped_left keys children n left right key d lt at unset s = rw (take_one (zip keys children) n (key, slice_index_or children n d) (zipped_at keys children n key d lt at)) (shared_left mask n (take n (zip keys children)) left right (key, slice_index_or children n d) unset s)

  pub zipped_all : (keys : List K) (children : List Handle) (n : ℕ) (left right : List (K × Handle)) → length keys ≡ NODE_SIZE → length children ≡ NODE_SIZE → n ≤ length children → length children ≤ n → mask < 2 ^ 16 → IsSharedUpTo mask n (take n (zip keys children)) left right → IsShared mask (zip keys children) left right
  zipped_all keys children n left right keys_long children_long low high fits s =
      let long = length_aligned keys children (children_long ∙ sym keys_long) in
      let here : n ≡ 16 = omega (arith, low, high, children_long) in
      let whole : take n (zip keys children) ≡ zip keys children = take_all n (zip keys children) (omega (arith, long, keys_long, here)) in
      shared_all mask (zip keys children) left right fits (subst (λ m. IsSharedUpTo mask m (zip keys children) left right) here (subst (λ first. IsSharedUpTo mask n first left right) whole s))

-- ---- bodies

module _ {Key Item : Type 0} (mask : ℕ) (least : 4 ≤ count_ones mask) (most : count_ones mask ≤ 12) where
  pub halved_leaf : (whole left right : List (ℕ × Item)) → length whole ≡ NODE_SIZE → IsShared mask whole left right → IsHalved {Key = Key} {Item = Item} (Leaf whole) (Leaf left) (Leaf right)
  halved_leaf whole left right long s =
      let parted = parted_by_sides mask s.sides in
      let sizes = parted_sizes parted in
      let many = s.many in
      record { pairs = parted; entries = no_parts; one_filled = omega (arith, sizes, many, long, most); other_filled = omega (arith, many, least) }

  pub halved_inner : (whole left right : List (Key × Handle)) → length whole ≡ NODE_SIZE → IsShared mask whole left right → IsHalved {Key = Key} {Item = Item} (Inner whole) (Inner left) (Inner right)
  halved_inner whole left right long s =
      let parted = parted_by_sides mask s.sides in
      let sizes = parted_sizes parted in
      let many = s.many in
      record { pairs = no_parts; entries = parted; one_filled = omega (arith, sizes, many, long, most); other_filled = omega (arith, many, least) }

zip_parts : {Key : Type 0} (entries : List (Key × Handle)) → zip (map (λ entry. entry.0) entries) (map (λ entry. entry.1) entries) ≡ entries
zip_parts [] = refl
zip_parts (entry ∷ entries) = ap (λ rest. entry ∷ rest) (zip_parts entries)

module _ {Key Item : Type 0} where
  -- an inner node's keys and children are its entries
  pub whole_inner : (body : PlainBody Key Item) (entries : List (Key × Handle)) (keys : List Key) (children : List Handle) → body ≡ Inner entries → keys ≡ map (λ entry. entry.0) (entries_of body) → children ≡ children_of body → Inner (zip keys children) ≡ body
  whole_inner body entries keys children inner keys_are children_are = rw (keys_are, children_are, inner) (ap Inner (zip_parts entries))

-- an inner node's entries are shared out as the class picks by their keys
pub picked_inner : {Key Item : Type 0} (key_of : Item → Key) (picks : List Key → ℕ → Type 0) (mask : ℕ) (keys : List Key) (children : List Handle) (left right : List (Key × Handle)) → length children ≡ length keys → picks keys mask → IsShared mask (zip keys children) left right → IsPickedOut key_of picks (Inner (zip keys children)) (Inner left) (Inner right)
picked_inner {Key = Key} key_of picks mask keys children left right same picked shared = of_entries (subst (λ (ks : List Key). picks ks mask) (sym (zip_keys keys children same)) picked) shared
