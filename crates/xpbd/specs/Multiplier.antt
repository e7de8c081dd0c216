-- The update of a constraint's multiplier: Macklin 2016; Müller 2020, equation (4); its guard is the Rust's. Definitions only.
use Rattle.std.specs.Prelude.{Float, if◌then◌else◌}
use Rattle.std.specs.Float.Ieee.{neg, le}
use Rattle.scalar.specs.Arith.{◌⊕◌, ◌⊖◌, ◌⊗◌, ◌⊘◌, f0, epsilon}

-- α̃ = α / h²
abbrev pub tilde_compliance : Float → Float → Float
tilde_compliance α h = α ⊘ (h ⊗ h)

-- (4): Δλ = (-C - α̃ λ) / (w₁ + w₂ + α̃), with unit gradients; zero where both bodies are as good as fixed
unfoldable pub lagrange_update : Float → Float → Float → Float → Float → Float → Float
lagrange_update l C w₁ w₂ α h =
    let w = w₁ ⊕ w₂ in
    let α̃ = tilde_compliance α h in
    if le w epsilon then f0 else (neg C ⊖ α̃ ⊗ l) ⊘ (w ⊕ α̃)
