-- A configuration from a file, and a run with it.
use Rattle.std.proofs.Common.{◌≡◌, ◌∙◌, ℕ, List, [], Option, None, Some, refl, subst, IfErr, IfSome, OnOk, Result, Ok, Err}
use Rattle.std.specs.Io.KnownBytes.{Appends, Keeps}
use Rattle.scripts.specs.Scripts.{IsScriptText, LineTells, script}
use Rattle.scripts.specs.States.{SessionState}
use Rattle.line_streams.specs.Streams.{NeverEnds, Ran as RanLines}
use Rattle.byte_streams.specs.declared.writing.Flushed.{Flushed}
use Rattle.line_streams.specs.declared.streams.ServeFault.{ServeFault}
use Rattle.line_streams.specs.declared.streams.ServeFault.TheVariants as reasons
use Rattle.plain_world.specs.States.{WorldData}
use Rattle.configuration.specs.ConfigFiles.{FileGives, IsConfigFault, IsConfigText}
use Rattle.configuration.specs.Configs.{ConfigData, config_data}
use Rattle.program.specs.Ends.{program_fault}
use Rattle.program.specs.RunFaults.{BrokeOff, CameTo, IsOfRun}
use Rattle.program.specs.Runs.{IsConfigOf, RanScript, Served, world_of}
use Rattle.configuration.specs.declared.config_faults.ConfigFault.{ConfigFault}
use Rattle.configuration.specs.declared.configs.Config.{Config}
use Rattle.program.specs.declared.faults.ProgramFault.{ProgramFault}

-- the configuration read from a file is the file's configuration
pub configured : {A : Type 0} (known text : Option (List ℕ)) (config : Config A) → known ≡ text → FileGives (Ok config) known →
    IfSome text (λ text. IsConfigText (config_data config) text)
configured known text config same h = subst (λ known. IfSome known (λ text. IsConfigText (config_data config) text)) same h

-- the fault returned for a file is the file's fault
pub misconfigured : (known text : Option (List ℕ)) (fault : ConfigFault) → known ≡ text → IfSome known (λ text. IsConfigFault fault text) →
    IfSome text (λ text. IsConfigFault fault text)
misconfigured known text fault same h = subst (λ known. IfSome known (λ text. IsConfigFault fault text)) same h

module _ (held : List ℕ → Option (List ℕ)) (config : Option (List ℕ)) (features : ℕ) (name : List ℕ) (c : ConfigData) (known before after : Option (List ℕ)) where
  -- a run with a configuration served the script of a file
  pub ran : (result : Result Flushed ProgramFault) → IsConfigOf held config c → known ≡ held name → OnOk result (IfSome known (λ text. Served c features text before after)) →
      OnOk result (RanScript held config features name before after)
  ran (Ok u) is_config same served =
      record { configured = c; is_config = is_config; served = subst (λ known. IfSome known (λ text. Served c features text before after)) same served }
  ran (Err e) is_config same served = tt

  -- or it broke off
  pub broke_off : (closed : List ℕ → Type 0) (result : Result Flushed ProgramFault) → IsConfigOf held config c → known ≡ held name → IfErr result (IsOfRun c features known before after) →
      IfErr result (BrokeOff held closed config features name before after)
  broke_off closed (Ok u) is_config same h = tt
  broke_off closed (Err fault) is_config same h = BrokeOff.in_run c is_config (subst (λ known. IsOfRun c features known before after fault) same h)

-- appended output stays appended after a flush that keeps it
kept_on : (before mid after : Option (List ℕ)) (said : List ℕ) → Appends before mid said → Keeps mid after → Appends before after said
kept_on None mid after said a k = tt
kept_on (Some xs) None after said a k = absurd a
kept_on (Some xs) (Some ys) None said a k = absurd k
kept_on (Some xs) (Some ys) (Some zs) said a k = k ∙ a

-- a run over the world that a configuration opens serves the script of a file
pub served : (c : ConfigData) (features : ℕ) (known before mid after : Option (List ℕ)) (world end : WorldData) → world ≡ world_of c features →
    IfSome known (λ input. (said : List ℕ) × Appends before mid said × IsScriptText world input end said) → Keeps mid after →
    IfSome known (λ script. Served c features script before after)
served c features None before mid after world end opens told keeps = tt
served c features (Some input) before mid after world end opens told keeps =
    record {
      said = told.0;
      end = end;
      written = kept_on before mid after told.0 told.1 keeps;
      text = subst (λ w. IsScriptText w input end told.0) opens told.2;
    }

-- how far such a run has come
pub came : (c : ConfigData) (features : ℕ) (end : Result Flushed ServeFault) (world last : WorldData) (sessions : List SessionState) (input left before mid after : Option (List ℕ)) →
    world ≡ world_of c features → RanLines (NeverEnds LineTells) end (script world []) (script last sessions) input left before mid → Keeps mid after →
    CameTo c features end input before after
came c features end world last sessions input left before mid after opens ran keeps =
    record {
      sessions = sessions;
      last = last;
      left = left;
      written = mid;
      ran = subst (λ w. RanLines (NeverEnds LineTells) end (script w []) (script last sessions) input left before mid) opens ran;
      kept = keeps;
    }

-- the fault by which it ended, as it is shown
pub of_run : (c : ConfigData) (features : ℕ) (fault : ServeFault) (input before after : Option (List ℕ)) → CameTo c features (Err fault) input before after → IsOfRun c features input before after (program_fault fault)
of_run c features (reasons.Read failed) input before after h = (refl, h)
of_run c features (reasons.Write failed) input before after h = (Err (reasons.Write failed), h)
of_run c features (reasons.TooManyTurns turns) input before after h = (refl, h)
of_run c features (reasons.Memory refused) input before after h = (refl, h)
