-- Reading what is said of HTTP.
use Rattle.std.proofs.Common.{◌≡◌, ℕ, Bool, List, Result, Ok, Err, Option, refl}
use Rattle.serde_json.specs.Data.{Data, Items}
use Rattle.credentials.specs.declared.keys.Key.{Key}
use Rattle.features.specs.declared.actors.Subject.{Subject}
use Rattle.policy_documents.specs.Documents.{DocumentData}
use Rattle.configuration.specs.ConfigFaults.{Fails}
use Rattle.configuration.specs.Configs.{GridData, collections_member, config_from, grid_member, keys_member, of_form, policies_in, public_member, subject_member, subjects_in, taken_over, trusted_member, value_of, web_in}
use Rattle.configuration.specs.declared.config_faults.ConfigFault.{ConfigFault}
use Rattle.configuration.specs.declared.paths.ConfigPath.{ConfigPath}
use Rattle.configuration.specs.declared.paths.MemberName.TheVariants as member_names
use Rattle.configuration.proofs.ConfigLemmas.{Fails-bind, Fails-form, form_of}

-- a fault of what is said of HTTP, behind all else that was read
pub web-fails : (items : Items) (policies d : Data) (under : Option Data) (given subjects : List Subject) (document : DocumentData) (grid : Option GridData) (e : ConfigFault) → of_form (subjects_in items) ≡ Ok given → taken_over given ≡ Ok subjects → policies_in policies ≡ Ok document →
    under ≡ value_of member_names.Grid d → grid_member under ≡ Ok grid → Fails e (of_form (web_in subjects d)) → Fails e (config_from items policies d)
unfolding config_from
web-fails items policies d under given subjects document grid e each taken read is found h =
    rw (each, taken, read, ← is, found) (Fails-bind e (of_form (web_in subjects d)) _ h)

-- ---- what is said of HTTP, part after part

module _ (subjects : List Subject) (d : Data) (a m : Option (List ℕ)) (has_a : subject_member subjects member_names.Anonymous (value_of member_names.Anonymous d) ≡ Ok a)
    (has_m : subject_member subjects member_names.Metrics (value_of member_names.Metrics d) ≡ Ok m) (u : Option Data) (is_u : u ≡ value_of member_names.Public d) where
  pub public-fails : (e : ConfigFault) → Fails e (of_form (public_member u)) → Fails e (of_form (web_in subjects d))
  unfolding web_in
  public-fails e h = rw (has_a, has_m, ← is_u) (Fails-form e (public_member u) _ h)

  module _ (p : Option (List ℕ)) (has_p : of_form (public_member u) ≡ Ok p) (v : Option Data) (is_v : v ≡ value_of member_names.Collections d) where
    pub collections-fail : (e : ConfigFault) → Fails e (of_form (collections_member v)) → Fails e (of_form (web_in subjects d))
    unfolding web_in
    collections-fail e h = rw (has_a, has_m, ← is_u, form_of (public_member u) p has_p, ← is_v) (Fails-form e (collections_member v) _ h)

    module _ (c : List (List ℕ)) (has_c : of_form (collections_member v) ≡ Ok c) (w : Option Data) (is_w : w ≡ value_of member_names.Keys d) where
      pub keys-fail : (e : ConfigFault) → Fails e (of_form (keys_member subjects w)) → Fails e (of_form (web_in subjects d))
      unfolding web_in
      keys-fail e h =
          rw (has_a, has_m, ← is_u, form_of (public_member u) p has_p, ← is_v, form_of (collections_member v) c has_c, ← is_w) (Fails-form e (keys_member subjects w) _ h)

      module _ (k : List Key) (has_k : of_form (keys_member subjects w) ≡ Ok k) (x : Option Data) (is_x : x ≡ value_of member_names.TrustedField d) where
        pub trust-fails : (path : ConfigPath) → trusted_member k x ≡ Err path → web_in subjects d ≡ Err path
        unfolding web_in
        trust-fails path h =
            rw (has_a, has_m, ← is_u, form_of (public_member u) p has_p, ← is_v, form_of (collections_member v) c has_c, ← is_w, form_of (keys_member subjects w) k has_k, ← is_x, h) refl

        pub said : (t : Bool) → trusted_member k x ≡ Ok t →
            web_in subjects d ≡ Ok (record { anonymous = a; metrics = m; public = p; collections = c; keys = k; trusted_field = t })
        unfolding web_in
        said t h =
            rw (has_a, has_m, ← is_u, form_of (public_member u) p has_p, ← is_v, form_of (collections_member v) c has_c, ← is_w, form_of (keys_member subjects w) k has_k, ← is_x, h) refl
