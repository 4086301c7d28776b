use Rattle.std.proofs.Common.{◌∙◌}
use Rattle.world.proofs.Loadings.{load-done, load-ended, load-refused}
use Rattle.world.proofs.card_state.CardState.load.Goals as goal

pub returns-in-Ok : goal.returns-in-Ok
returns-in-Ok g c =
    let self = c.args.self.now in
    load-done g.S.ParamSet.params self c.args.public.now c.load.new.public c.as_slice.result.now c.as_mut_slice.result.now c.as_slice.ensures.value c.as_mut_slice.ensures.value c.load.new.key (c.load.auto.key ∙ c.as_mut_slice.ensures.len) c.load.new.masks c.load.result c.load.ensures.loaded c.in-Ok.loaded c.in-Ok.is

pub returns-in-MasksEnded : goal.returns-in-MasksEnded
returns-in-MasksEnded g c =
    let self = c.args.self.now in
    load-ended g.S.ParamSet.params self c.args.public.now c.load.new.public c.as_slice.result.now c.as_mut_slice.result.now c.as_slice.ensures.value c.as_mut_slice.ensures.value c.load.new.key (c.load.auto.key ∙ c.as_mut_slice.ensures.len) c.load.new.masks c.load.result c.load.ensures.loaded c.in-Err.refusal c.in-Err.is c.in-MasksEnded.mark c.in-MasksEnded.is

pub returns-in_default : goal.returns-in_default
returns-in_default g c =
    let self = c.args.self.now in
    load-refused g.S.ParamSet.params self c.args.public.now c.load.new.public c.as_slice.result.now c.as_mut_slice.result.now c.as_slice.ensures.value c.as_mut_slice.ensures.value c.load.new.key (c.load.auto.key ∙ c.as_mut_slice.ensures.len) c.load.new.masks c.load.result c.load.ensures.loaded c.in-Err.refusal c.in-Err.is c.in_default.not-MasksEnded
