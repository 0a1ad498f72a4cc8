use Rattle.std.proofs.Common.{sym, subst}
use Rattle.configuration.specs.ConfigFaults.{Gives}
use Rattle.configuration.specs.Configs.{config_data}
use Rattle.configuration.proofs.ConfigLemmas.{Gives-residual, config_of-read, read-filled, unread-fails}
use Rattle.configuration.proofs.configs.read_config.Goals as goal

pub returns-in_err-value-clause-value : goal.returns-in_err-value-clause-value
returns-in_err-value-clause-value g c =
    Gives-residual _ _ _ _ c.from_residual.ensures.1 (unread-fails c.args.text.now c.in_err-value.field-0.0 c.in_err-value.ensures.text)

pub returns-clause-value : goal.returns-clause-value
returns-clause-value g c =
    let read = c.in_ok-value.ensures.ok in
    subst (λ reading. Gives config_data c.config_in.result reading) (sym (config_of-read c.args.text.now _ read.0 read.1)) c.config_in.ensures

pub returns-clause-empty : goal.returns-clause-empty
returns-clause-empty g c = λ none. read-filled c.args.text.now _ none c.in_ok-value.ensures.ok.1
