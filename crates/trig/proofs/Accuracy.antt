-- The claim of `specs/Accuracy.antt`, proved.
use Rattle.trig.specs.Accuracy.{Accurate}
use Rattle.trig.proofs.SineWithin.{sin_within, cos_within}
use Rattle.trig.proofs.Atan2Within.{atan2_within}

pub accurate : Accurate
accurate = record { sine = sin_within; cosine = cos_within; atan2 = atan2_within }
