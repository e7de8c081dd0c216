-- Document 01, 'Examples': the tick count that the program reads, and the lines that it writes, as bytes.
use Rattle.std.specs.Prelude.{ℕ, zero, suc, ◌+◌, ◌*◌, List, [], ◌++◌, map, codes, eqb, Float, if◌then◌else◌}
use Rattle.std.specs.Fmt.{decimal}
use Rattle.std.specs.Int.{to_be_bytes}
use mir.Syntax.{w32}
use Rattle.hex.specs.Hex.{encode_lower}
use Rattle.scalar.specs.Scalar.{bits_of}
use Rattle.solver_body.specs.declared.BodyState.{BodyState}
use Rattle.numbers.specs.Lists.{concat, each}
use Rattle.numbers.specs.Numbers.{numbers3, numbers4}
use Rattle.state.specs.State.{body_at}
use Rattle.card.specs.Answer.{refused}
use Rattle.tick.specs.Run.{tick_of}

-- two bytes, high one first
abbrev pub ticks_of : ℕ → ℕ → ℕ
ticks_of high low = high * 256 + low

-- eight digits; a NaN, of which no tick that is done leaves any, is the quiet one
abbrev pub hex_of : Float → List ℕ
hex_of x = codes " " ++ encode_lower (to_be_bytes w32 (bits_of x))

unfoldable pub line_of : ℕ → ℕ → List Float → List ℕ
line_of tick body pose = decimal tick ++ codes " " ++ decimal body ++ concat (map hex_of pose) ++ codes "\n"

abbrev pub pose_of : BodyState → List Float
pose_of b = numbers3 b.position ++ numbers4 b.rotation

-- a line for each of so many bodies
unfoldable pub lines_of : ℕ → ℕ → List Float → List ℕ
lines_of tick bodies s = concat (each (λ i. line_of tick i (pose_of (body_at s i))) bodies)

unfoldable pub refusal_of : ℕ → List ℕ
refusal_of n = refused n ++ codes "\n"

-- what so many ticks more write, from a state on; the first that is refused ends them
unfoldable pub output_of : List ℕ → ℕ → ℕ → ℕ → List Float → List ℕ
output_of card bodies done zero s = []
output_of card bodies done (suc left) s =
    let a = tick_of card s in
    if eqb a.number 0 then lines_of (done + 1) bodies a.state ++ output_of card bodies (done + 1) left a.state else refusal_of a.number
