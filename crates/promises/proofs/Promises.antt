-- Each is proved where it belongs.
use Rattle.root.proofs.Closest.{root_exact}
use Rattle.root.proofs.Starts.{starts_within}
use Rattle.series.proofs.Nearest.{nearest}
use Rattle.series.proofs.Interpolation.{interpolation}
use Rattle.trig.proofs.Accuracy.{accurate}
use Rattle.loader.proofs.Reach.{limits_in_reach}
use Rattle.joints.proofs.RightAngle.{right_angle}
use Rattle.tick.proofs.Examples as line
use Rattle.tick.proofs.Dominance.{dominance_gone}
use Rattle.examples.proofs.Examples as marked
use Rattle.demand.proofs.Breaks.{breaking}
use Rattle.demand.proofs.Demand.{demand_three}
use Rattle.demand.proofs.Sample.{sample_holds}
use Rattle.promises.specs.Promises.{Promises}
use Rattle.promises.proofs.Conversion.{conversions}

pub promises : Promises
promises =
    record {
      root = root_exact;
      tables = nearest;
      interpolation = interpolation;
      accuracy = accurate;
      demand = demand_three;
      sample = sample_holds;
      examples = marked.examples;
      line = line.examples;
      point_2 = right_angle;
      point_4 = conversions;
      point_5 = dominance_gone;
      point_7 = starts_within;
      point_8 = limits_in_reach;
      point_11 = breaking;
    }
