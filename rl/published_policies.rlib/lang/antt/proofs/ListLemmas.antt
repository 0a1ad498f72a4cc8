-- Prefixes of lists, numbered lists, and the last item of a list.
use Rattle.std.proofs.Common.{◌≡◌, ◌<◌, ◌≤◌, ◌+◌, ℕ, List, [], ◌∷◌, ◌++◌, length, take, drop, Option, None, Some, refl, sym, ap, ◌∙◌, subst, arith, append-nil, length-append}
use Rattle.std.specs.List.{last_or}
use Rattle.std.proofs.lemmas.List.{take_all, take_at, take-take, take-append-drop}
use mathlib.Core.List.{IsPrefix}
use Rattle.decision.specs.Deciders.{DeciderData}
use Rattle.logbook.specs.Pages.{Book}
use Rattle.published_policies.specs.Lists.{AreEditions, IsNextEdition, IsNumbered, SeenData, edition_of, last_edition, seen_in}

module _ {X : Type 0} where
  -- the front of a list, as long as a prefix of it, is that prefix
  taken_front : (xs ys : List X) → IsPrefix xs ys → take (length xs) ys ≡ xs
  taken_front xs ys p = subst (λ (zs : List X). take (length xs) zs ≡ xs) p.1 (take_at xs p.0 (length xs) refl)

  front_begins : (xs ys : List X) → take (length xs) ys ≡ xs → IsPrefix xs ys
  front_begins xs ys e = subst (λ (zs : List X). IsPrefix zs ys) e (drop (length xs) ys, take-append-drop (length xs) ys)

  pub prefix_length : (xs ys : List X) → IsPrefix xs ys → length xs ≤ length ys
  prefix_length xs ys p = omega (arith, ap length p.1, length-append xs p.0)

  -- each list is a prefix of itself
  pub prefix_self : (xs : List X) → IsPrefix xs xs
  prefix_self xs = ([], append-nil xs)

  pub prefix_trans : (xs ys zs : List X) → IsPrefix xs ys → IsPrefix ys zs → IsPrefix xs zs
  prefix_trans xs ys zs p q =
      let shorter = prefix_length xs ys p in
      front_begins xs zs (sym (take-take (length xs) (length ys) zs shorter) ∙ ap (take (length xs)) (taken_front ys zs q) ∙ taken_front xs ys p)

  -- of two prefixes of one list the shorter is a prefix of the longer
  pub prefix_shorter : (xs ys zs : List X) → IsPrefix xs zs → IsPrefix ys zs → length xs ≤ length ys → IsPrefix xs ys
  prefix_shorter xs ys zs p q shorter =
      front_begins xs ys (ap (take (length xs)) (sym (taken_front ys zs q)) ∙ take-take (length xs) (length ys) zs shorter ∙ taken_front xs zs p)

  -- a prefix that is no shorter is the whole list
  pub prefix_whole : (xs ys : List X) → IsPrefix xs ys → length ys ≤ length xs → xs ≡ ys
  prefix_whole xs ys p whole = sym (taken_front xs ys p) ∙ take_all (length xs) ys whole

  -- the item that was appended to a list is its last
  pub last_push : (o : Option X) (xs : List X) (x : X) → last_or o (xs ++ x ∷ []) ≡ Some x
  last_push o [] x = refl
  last_push o (y ∷ ys) x = last_push (Some y) ys x

  -- a list with a last item is not empty
  pub not_empty : (xs : List X) (x : X) → last_or None xs ≡ Some x → 0 < length xs
  not_empty [] x e = cc
  not_empty (y ∷ ys) x e = omega arith

-- a list stays numbered if the next edition is appended
pub numbered_push : (n : ℕ) (list : List DeciderData) (decider : DeciderData) → IsNumbered n list → decider.edition ≡ n + length list → IsNumbered n (list ++ decider ∷ [])
numbered_push n [] decider h next = (omega arith, tt)
numbered_push n (first ∷ later) decider h next = (h.0, numbered_push (n + 1) later decider h.1 (omega arith))

-- the last edition, by the first one and the length
last_number : (n : ℕ) (list : List DeciderData) → IsNumbered n list → 0 < length list → last_edition list + 1 ≡ n + length list
last_number n [] h some = absurd (omega arith)
last_number n (first ∷ []) h some = omega (arith, h.0)
last_number n (first ∷ second ∷ later) h some = omega (arith, last_number (n + 1) (second ∷ later) h.1 (omega arith))

numbered_front : (n : ℕ) (front rest : List DeciderData) → IsNumbered n (front ++ rest) → IsNumbered n front
numbered_front n [] rest h = tt
numbered_front n (first ∷ later) rest h = (h.0, numbered_front (n + 1) later rest h.1)

-- a list without a policy
pub no_editions : (list : List DeciderData) → list ≡ [] → AreEditions list
no_editions list e = subst AreEditions (sym e) (record { first = 1; from_one = omega arith; numbered = tt })

-- there are at most as many policies as the last edition says
pub editions_counted : (list : List DeciderData) → AreEditions list → length list ≤ last_edition list
editions_counted [] h = omega arith
editions_counted (first ∷ later) h = omega (arith, last_number h.first (first ∷ later) h.numbered (omega arith), h.from_one)

-- the editions still follow one another if the next one is appended
pub editions_push : (list : List DeciderData) (decider : DeciderData) → AreEditions list → IsNextEdition list decider.edition → AreEditions (list ++ decider ∷ [])
editions_push [] decider h next = record { first = decider.edition; from_one = next.from_one; numbered = (refl, tt) }
editions_push (first ∷ later) decider h next =
    let last = last_number h.first (first ∷ later) h.numbered (omega arith) in
    record {
      first = h.first;
      from_one = h.from_one;
      numbered = numbered_push h.first (first ∷ later) decider h.numbered (omega (arith, last, next.follows (omega arith)));
    }

-- a prefix ends with no later edition
pub no_later : (xs ys : List DeciderData) → IsPrefix xs ys → AreEditions ys → last_edition xs ≤ last_edition ys
no_later [] ys p h = omega arith
no_later (first ∷ later) ys p h =
    let xs = first ∷ later in
    let longer = prefix_length xs ys p in
    let front : IsNumbered h.first xs = numbered_front h.first xs p.0 (subst (IsNumbered h.first) (sym p.1) h.numbered) in
    omega (arith, longer, last_number h.first xs front (omega arith), last_number h.first ys h.numbered (omega (arith, longer)))

-- the first edition of a list, and the one after the last
pub first_edition : (edition : ℕ) → 0 < edition → IsNextEdition [] edition
first_edition edition from_one = record { from_one = from_one; follows = λ some. absurd (omega (arith, some)) }

pub next_edition : (list : List DeciderData) (edition : ℕ) → edition ≡ last_edition list + 1 → IsNextEdition list edition
next_edition list edition e = record { from_one = omega (arith, e); follows = λ _. e }

-- a list that has room for the next edition has room for one more policy
pub one_more : (list : List DeciderData) (len edition : ℕ) → len ≡ length list → AreEditions list → IsNextEdition list edition → len + 1 ≤ edition
one_more [] len edition count h next = omega (arith, count, next.from_one)
one_more (first ∷ later) len edition count h next =
    omega (arith, count, next.follows (omega arith), editions_counted (first ∷ later) h)

-- the length and the last edition of a list to which a policy was added
pub added : (list longer : List DeciderData) (decider : DeciderData) (len edition : ℕ) → len ≡ length list → edition ≡ decider.edition → longer ≡ list ++ decider ∷ []
    → (len + 1 ≡ length longer) × (edition ≡ last_edition longer)
added list longer decider len edition count told e = (
  omega (arith, count, ap length e, length-append list (decider ∷ [])),
  told ∙ sym (ap edition_of (ap (last_or None) e ∙ last_push None list decider)),
)

-- two prefixes of one list, as long as one another
pub same_seen : (x y : SeenData) → y.book ≡ x.book → (length x.list ≤ length y.list → IsPrefix x.list y.list) → length x.list ≡ length y.list → y ≡ x
same_seen x y book begins count =
    let list : x.list ≡ y.list = prefix_whole x.list y.list (begins (omega (arith, count))) (omega (arith, count)) in
    ap (λ (b : Book). seen_in b y.list) book ∙ ap (seen_in x.book) (sym list)
