-- Several nodes change at once: what becomes of each, and what running searches have still seen of
-- it.
use Rattle.std.proofs.Common.{◌≡◌, ℕ, ◌≤◌, Contains, Option, Some, None, IsTrue, refl}
use Rattle.std.specs.Option.{option_map}
use Rattle.node_arena.specs.declared.handle.Handle.{Handle}
use Rattle.tree_theory.specs.Invariant.{Searches}
use Rattle.tree_theory.specs.KeyClasses.{Class}
use Rattle.tree_theory.specs.Nodes.{PlainNode, Node, Tree, is_marked, is_followed, place_under, under}
use Rattle.tree_theory.specs.Walks.{Leads}
use Rattle.tree_theory.specs.Walks.Leads.{here, along}
use Rattle.tree_theory.specs.declared.position.Position.{Position}
use Rattle.tree_theory.specs.declared.position.Position.TheVariants.{Root, Linked, Unlinked, Retired}
use Rattle.tree_theory.proofs.Replaced.{Keeps}
use Rattle.tree_theory.proofs.SearchKept.{Seen, SeenBy}

-- another parent changes neither mark nor retirement
pub under_marked : (p : Handle) (place : Position) → is_marked (place_under p place) ≡ is_marked place
under_marked p Root = refl
under_marked p (Linked q marked) = refl
under_marked p (Unlinked l) = refl
under_marked p (Retired stamp) = refl

pub under_retired : (p : Handle) (place : Position) (stamp : ℕ) → place_under p place ≡ Retired stamp → place ≡ Retired stamp
under_retired p Root stamp e = e
under_retired p (Linked q marked) stamp e = absurd (cc)
under_retired p (Unlinked l) stamp e = e
under_retired p (Retired other) stamp e = e

module _ {Key Item : Type 0} where
  -- the node of which this is the changed one, if there was one
  pub record Before (change : PlainNode Key Item → PlainNode Key Item) (was : Option (PlainNode Key Item)) (now : PlainNode Key Item) : Type 0 where
    pub old : PlainNode Key Item
    pub is : was ≡ Some old
    pub changed : change old ≡ now

  pub before_of : (change : PlainNode Key Item → PlainNode Key Item) (was : Option (PlainNode Key Item)) (now : PlainNode Key Item) → option_map change was ≡ Some now → Before change was now
  before_of change None now e = absurd (cc)
  before_of change (Some old) now e = record { old = old; is = refl; changed = cc }

  -- the same but for its parent and its level
  pub record Moved (old new : PlainNode Key Item) : Type 0 where
    pub body : new.body ≡ old.body
    pub seq : new.seq ≡ old.seq
    pub right : new.right ≡ old.right
    pub attached : new.attached ≡ old.attached
    pub marked : is_marked new.place ≡ is_marked old.place
    pub retired : (stamp : ℕ) → new.place ≡ Retired stamp → old.place ≡ Retired stamp

  pub moved_itself : (node : PlainNode Key Item) → Moved node node
  moved_itself node = record { body = refl; seq = refl; right = refl; attached = refl; marked = refl; retired = λ stamp e. e }

  pub moved_under : (p : Handle) (node : PlainNode Key Item) → Moved node (under p node)
  moved_under p node = record { body = refl; seq = refl; right = refl; attached = refl; marked = under_marked p node.place; retired = under_retired p node.place }

module _ {Key Query Item : Type 0} {C : Class Key Query Item} where
  pub seen_moved : {u : Tree C} {old new : Node C} → Moved old new → Seen u old → Seen u new
  seen_moved {u = u} {old = old} {new = new} moved seen =
      record { by = by; seq = rw moved.seq seen.seq; retired = λ stamp e. rw moved.seq (seen.retired stamp (moved.retired stamp e)) }
    where
      by : (s : ℕ) → Contains new.attached s → SeenBy u new.body new.place new.right s
      by s has =
          let before = seen.by s (rw (← moved.attached) has) in
          record {
            child = λ now is key c entry. before.child now is key c (rw (← moved.body) entry);
            mark = λ now is marked r right. before.mark now is (rw (← moved.marked) marked) r (rw (← moved.right) right);
            found = λ now is pair is_in. before.found now is pair (rw (← moved.body) is_in);
            given = before.given;
          }

  -- What becomes of an old node: it keeps its attached searches, and wherever a step from it led,
  -- at a memo up to the counter, steps still lead there.
  pub record Goes (t u : Tree C) (x : Handle) (old : Node C) : Type 0 where
    pub node : Node C
    pub is : u.look x ≡ Some node
    pub attached : (s : ℕ) → Contains old.attached s → Contains node.attached s
    pub leads : (memo : ℕ) → memo ≤ t.counter → IsTrue (is_followed old.place old.seq memo) → (y : Handle) → old.right ≡ Some y → Leads u memo y x

  pub goes_moved : {t u : Tree C} (x : Handle) (old new : Node C) → u.look x ≡ Some new → Moved old new → Goes t u x old
  goes_moved x old new is moved =
      record {
        node = new;
        is = is;
        attached = λ s has. rw moved.attached has;
        leads = λ memo below follows y right. along (record { node = new; is = is; follows = rw (moved.marked, moved.seq) follows; right = rw moved.right right }) here;
      }

  pub goes_keeps : {t u : Tree C} → Searches t → ((x : Handle) (old : Node C) → t.look x ≡ Some old → Goes t u x old) → Keeps t u
  goes_keeps searches goes =
      record {
        done = λ s runs is h done. let to = goes h done.node done.is in record { node = to.node; is = to.is; attached = to.attached s done.attached };
        steps = λ s runs is from memo on_stack a b step. let to = goes a step.node step.is in to.leads memo (searches.memo_counter s runs is from memo on_stack) step.follows b step.right;
      }
