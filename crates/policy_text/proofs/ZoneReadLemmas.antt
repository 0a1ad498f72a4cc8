-- Reading zones one by one.
use Rattle.std.proofs.Common.{◌≡◌, ℕ, ◌+◌, ◌<◌, ◌≤◌, List, [], ◌∷◌, length, get_or, drop, refl, sym, ap, ◌∙◌, subst, add-one, drop-cons, Result, Ok}
use Rattle.std.proofs.lemmas.List.{drop_all}
use Rattle.serde_json.specs.View.{view, items_view}
use Rattle.serde_json.specs.declared.value.Value.{Value}
use Rattle.policy_text.specs.Reading.{◌>>=◌, Fails, at_item, zone_at, zones_at}
use Rattle.policy_text.specs.declared.paths.MemberName.TheVariants as member_names
use Rattle.policy_text.specs.declared.paths.PathPart.{PathPart}
use Rattle.policy_text.specs.declared.paths.PathPart.TheVariants as path_parts
use Rattle.policy_documents.specs.declared.zones.Zone.{Zone}
use Rattle.policy_text.specs.declared.faults.TextFault.{TextFault}
use Rattle.policy_text.proofs.EachLemmas.{Fails-bind}

abbrev pub zones_place : List PathPart
zones_place = path_parts.Member member_names.Zones ∷ []

-- what is left to read from the item at index i on
abbrev pub zones_left : ℕ → List Zone → List Value → Result (List Zone) TextFault
zones_left i zones vs = zones_at i zones (items_view (drop i vs))

zones_left-cons : (i : ℕ) (zones : List Zone) (vs : List Value) (v : Value) → i < length vs → v ≡ get_or vs i v →
    zones_left i zones vs ≡ (zone_at (at_item zones_place i) zones (view v) >>= λ more. zones_left (i + 1) more vs)
unfolding zones_at
zones_left-cons i zones vs v in_range at =
    ap (λ ws. zones_at i zones (items_view ws)) (drop-cons vs i v in_range) ∙ rw (← at, add-one) refl

pub zones_left-more : (i : ℕ) (zones after : List Zone) (vs : List Value) (v : Value) → i < length vs → v ≡ get_or vs i v →
    zone_at (at_item zones_place i) zones (view v) ≡ Ok after → zones_left (i + 1) after vs ≡ zones_left i zones vs
zones_left-more i zones after vs v in_range at told = sym (zones_left-cons i zones vs v in_range at ∙ rw told refl)

pub zones_left-fails : (i : ℕ) (zones : List Zone) (vs : List Value) (v : Value) (e : TextFault) → i < length vs → v ≡ get_or vs i v →
    Fails e (zone_at (at_item zones_place i) zones (view v)) → Fails e (zones_left i zones vs)
zones_left-fails i zones vs v e in_range at told = subst (Fails e) (sym (zones_left-cons i zones vs v in_range at)) (Fails-bind e _ _ told)

pub zones_left-end : (i : ℕ) (zones : List Zone) (vs : List Value) → length vs ≤ i → zones_left i zones vs ≡ Ok zones
unfolding zones_at
zones_left-end i zones vs past = ap (λ ws. zones_at i zones (items_view ws)) (drop_all i vs past)
