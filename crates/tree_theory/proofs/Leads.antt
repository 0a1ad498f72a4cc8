-- Steps along rightlinks, and where they lead.
use Rattle.std.proofs.Common.{◌≡◌, ◌⊎◌, ℕ, ◌<◌, ◌||◌, Bool, true, false, nat_lt, [], Contains, IsTrue, refl, subst, inl, inr}
use Rattle.std.proofs.lemmas.Bool.{lt-ltb, ltb-true}
use Rattle.node_arena.specs.declared.handle.Handle.{Handle}
use Rattle.tree_theory.specs.KeyClasses.{Class}
use Rattle.tree_theory.specs.Nodes.{Search, Tree, is_marked, is_followed}
use Rattle.tree_theory.specs.Walks.{Step, Leads, Done, Owed}
use Rattle.tree_theory.specs.Walks.Leads.{here, along}
use Rattle.tree_theory.specs.declared.position.Position.{Position}
use Rattle.tree_theory.proofs.ListLemmas.{nothing_in}

-- a search follows to the right from a marked node, and from one whose number is above the memo
pub followed_marked : (place : Position) (seq memo : ℕ) → IsTrue (is_marked place) → IsTrue (is_followed place seq memo)
followed_marked place seq memo marked = rw marked refl

pub followed_later : (place : Position) (seq memo : ℕ) → memo < seq → IsTrue (is_followed place seq memo)
followed_later place seq memo later = go (is_marked place)
  where
    go : (marked : Bool) → IsTrue (marked || nat_lt memo seq)
    go true = refl
    go false = lt-ltb memo seq later

pub followed_cases : (place : Position) (seq memo : ℕ) → IsTrue (is_followed place seq memo) → IsTrue (is_marked place) ⊎ (memo < seq)
followed_cases place seq memo follows = go (is_marked place) follows
  where
    go : (marked : Bool) → IsTrue (marked || nat_lt memo seq) → IsTrue marked ⊎ (memo < seq)
    go true h = inl refl
    go false h = inr (ltb-true memo seq h)

module _ {Key Query Item : Type 0} {C : Class Key Query Item} where
  pub leads_trans : {t : Tree C} {memo : ℕ} {z y x : Handle} → Leads t memo y x → Leads t memo z y → Leads t memo z x
  leads_trans here after = after
  leads_trans (along step rest) after = along step (leads_trans rest after)

  -- if each step of one tree leads to the same node in another, so does each way
  pub leads_map : {t u : Tree C} {memo : ℕ} {z x : Handle} → ((a b : Handle) → Step t memo a b → Leads u memo b a) → Leads t memo z x → Leads u memo z x
  leads_map each here = here
  leads_map each (along {x = x} {y = y} step rest) = leads_trans (each x y step) (leads_map each rest)

  -- the first step of a way
  pub record Onward (t : Tree C) (memo : ℕ) (z x : Handle) : Type 0 where
    pub next : Handle
    pub step : Step t memo x next
    pub leads : Leads t memo z next

  pub leads_pop : {t : Tree C} {memo : ℕ} {z x : Handle} → Leads t memo z x → (x ≡ z) ⊎ Onward t memo z x
  leads_pop here = inl refl
  leads_pop (along {y = y} step rest) = inr (record { next = y; step = step; leads = rest })

  -- an empty stack leads nowhere, so what is owed is done
  pub owed_is_done : {t : Tree C} (s : ℕ) (runs : Search C) (h : Handle) → runs.stack ≡ [] → Owed t s runs h → Done t s h
  owed_is_done s runs h empty (inl done) = done
  owed_is_done s runs h empty (inr stacked) =
      let entry : Handle × ℕ = (stacked.from, stacked.memo) in
      let none : Contains [] entry = subst (λ l. Contains l entry) empty stacked.on_stack in
      absurd (nothing_in entry none)
