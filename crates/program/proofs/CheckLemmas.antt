-- What was found of a configuration.
use Rattle.std.proofs.Common.{◌≡◌, ℕ, List, Option, IfSome, subst}
use Rattle.std.specs.Io.KnownBytes.{Appends}
use Rattle.configuration.specs.Checking.{IsCheckOf, IsWrong, checked_text, wrong_text}
use Rattle.configuration.specs.Configs.{web_data}
use Rattle.configuration.specs.declared.checking.Checked.{Checked}
use Rattle.configuration.specs.declared.checking.Checked.TheVariants.{Right, Wrong}
use Rattle.configuration.specs.declared.config_faults.ConfigFault.{ConfigFault}
use Rattle.configuration.specs.declared.config_faults.ConfigFault.TheVariants.{NotJson, Form, Subjects, Policies, Memory}
use Rattle.configuration.specs.declared.summaries.Summary.{Summary}
use Rattle.configuration.specs.declared.web.Web.{Web}
use Rattle.grid.specs.declared.grids.Grid.{Grid}
use Rattle.program.specs.Checks.{IsFoundRight, IsFoundWrong}

module _ {A : Type 0} (held before after : Option (List ℕ)) (checked : Checked A) where
  pub found_right : (summary : Summary) (grid : Option Grid) (web : Web A) → checked ≡ Right summary grid web → IfSome held (λ text. IsCheckOf text checked) → Appends before after (checked_text checked) → IsFoundRight held before after
  found_right summary grid web is found written = (summary, grid, web_data web, subst (λ c. IfSome held (λ text. IsCheckOf text c)) is found, subst (λ c. Appends before after (checked_text c)) is written)

  pub found_wrong : (fault : ConfigFault) → checked ≡ Wrong fault → IfSome held (λ text. IsCheckOf text checked) → Appends before after (checked_text checked)
      → IsFoundWrong fault held before after
  found_wrong fault is found written = by fault (subst (λ c. IfSome held (λ text. IsCheckOf text c)) is found) (subst (λ c. Appends before after (checked_text c)) is written)
    where
      by : (fault : ConfigFault) → IfSome held (IsWrong fault) → Appends before after (wrong_text fault) → IsFoundWrong fault held before after
      by NotJson f w = (f, w)
      by (Form path) f w = (f, w)
      by (Subjects inner path) f w = (f, w)
      by (Policies inner) f w = (f, w)
      by (Memory refused) f w = tt
