use Rattle.jr_parse_expr.proofs.Written.{written}
use Rattle.jr_parse_expr.proofs.EffectReads.{effect_complete, effect_sound}
use Rattle.jr_parse_expr.proofs.EffectStuck.{effects_stuck}
use Rattle.jr_parse_expr.proofs.Readings.{exprs_complete, exprs_sound, inits_complete, inits_sound, one_reading}
use Rattle.jr_parse_expr.proofs.Stuck.{exprs_stuck, inits_stuck}
use Rattle.jr_parse_expr.proofs.law.expressions_have_one_reading.Goals as goal

pub returns-clause-written : goal.returns-clause-written
returns-clause-written c = written

pub returns-clause-complete : goal.returns-clause-complete
returns-clause-complete c = exprs_complete

pub returns-clause-sound : goal.returns-clause-sound
returns-clause-sound c = exprs_sound

pub returns-clause-effects_complete : goal.returns-clause-effects_complete
returns-clause-effects_complete c = effect_complete

pub returns-clause-effects_sound : goal.returns-clause-effects_sound
returns-clause-effects_sound c = effect_sound

pub returns-clause-inits_complete : goal.returns-clause-inits_complete
returns-clause-inits_complete c = inits_complete

pub returns-clause-inits_sound : goal.returns-clause-inits_sound
returns-clause-inits_sound c = inits_sound

pub returns-clause-one_reading : goal.returns-clause-one_reading
returns-clause-one_reading c = one_reading

pub returns-clause-stuck : goal.returns-clause-stuck
returns-clause-stuck c = exprs_stuck

pub returns-clause-inits_stuck : goal.returns-clause-inits_stuck
returns-clause-inits_stuck c = inits_stuck

pub returns-clause-effects_stuck : goal.returns-clause-effects_stuck
returns-clause-effects_stuck c = effects_stuck
