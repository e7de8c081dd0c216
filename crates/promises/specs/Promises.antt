-- The headline theorems in one place, so that the check fails where one of them is gone.
use Rattle.std.specs.Prelude.{T, Float}
use Rattle.std.specs.Float.{binary32}
use Rattle.std.specs.Float.Ieee.{fits}
use Rattle.std.specs.Float.Ieee.Positive.{positive}
use Rattle.root.specs.Nearest.{RootIsNearest}
use Rattle.root.specs.Start.{StartsWithin}
use Rattle.series.specs.Nearest.{Nearest}
use Rattle.series.specs.Interpolation.{Interpolation}
use Rattle.trig.specs.Accuracy.{Accurate}
use Rattle.loader.specs.Reach.{LimitsInReach}
use Rattle.joints.specs.RightAngle.{RightAngle}
use Rattle.tick.specs.Examples as line
use Rattle.tick.specs.Dominance.{DominanceGone}
use Rattle.examples.specs.Examples as marked
use Rattle.demand.specs.Breaks.{Breaks}
use Rattle.demand.specs.Demand.{DemandThree}
use Rattle.demand.specs.Sample.{Sample}
use Rattle.promises.specs.Conversion.{Conversions}

pub record Promises : Type 0 where
  pub root : (x : Float) → T (fits binary32 x) → T (positive x) → RootIsNearest x
  pub tables : Nearest
  pub interpolation : Interpolation
  pub accuracy : Accurate
  pub demand : DemandThree
  pub sample : Sample
  -- document 01's lines marked P, and its example line
  pub examples : marked.Examples
  pub line : line.Examples
  -- document 02, by its points
  pub point_2 : RightAngle
  pub point_4 : Conversions
  pub point_5 : DominanceGone
  pub point_7 : StartsWithin
  pub point_8 : LimitsInReach
  pub point_11 : Breaks
