-- Demand 3.
use Rattle.xpbd_joints.specs.Steps.{Event, a_stage, a_push}
use Rattle.stages.proofs.Sound.{EventSound, all_at}
use Rattle.stages.proofs.Laws.{bounded, capped, softer_of}
use Rattle.demand.specs.Demand.{EventOfTick, DemandThree}
use Rattle.demand.proofs.Anchored.{anchored_kept}
use Rattle.demand.proofs.Ticking.{traces, tick_sound}

sound : (e : Event) → EventOfTick e → EventSound e
sound e h = all_at EventSound (tick_sound h.card h.state h.done h.joint h.on_card) h.among

pub demand_three : DemandThree
demand_three =
    record {
      traced = traces;
      stages = λ s h. bounded s (sound (a_stage s) h);
      motors = λ p h. capped p (sound (a_push p) h);
      compliances = λ stiff soft h k e l. softer_of stiff soft (sound (a_stage stiff) h) (sound (a_stage soft) k) e l;
      anchored = λ card a l t. anchored_kept card l t;
    }
