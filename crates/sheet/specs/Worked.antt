-- Worked calls and what is answered to them.
use Rattle.std.specs.Prelude.{◌≡◌, List, [], ◌∷◌, ℤ, pos, negsuc}
use Rattle.leg.specs.declared.shapes.Leg.{Leg}
use Rattle.leg_check.specs.declared.verdict.Verdict.TheVariants.{Clear}
use Rattle.leg_check.specs.Halving.{check_of}
use Rattle.nodes.specs.declared.node.Node.{Node}
use Rattle.sheet.specs.declared.call.Call.{Call}
use Rattle.sheet.specs.declared.call.Call.TheVariants.{Add, TakeBack, Publish, Strike, Check}
use Rattle.sheet.specs.Calls.{empty_sheet}
use Rattle.sheet.specs.Answers.{Answer, taken, checked, field_of, answers_to}

-- an upright cylinder about x = 0, y = 0
abbrev pub cylinder : ℤ → Node
cylinder k = record { kind = pos 1; a = pos 0; b = pos 0; px = pos 0; py = pos 0; pz = pos 0; sx = pos 1; sy = pos 1; sz = pos 0; lx = pos 0; ly = pos 0; lz = pos 0; k = k }

-- a level leg at z = 100 along x
abbrev pub along : ℤ → ℤ → ℤ → Call
along x1 x2 y = Check (record { x = x1; y = y; z = pos 100 }) (record { x = x2; y = y; z = pos 100 })

abbrev pub calls_worked : List Call
calls_worked =
    along (negsuc 99) (pos 100) (pos 10)
    ∷ Add (cylinder (negsuc 99))
    ∷ Publish (pos 0) (pos 0) (pos 1)
    ∷ along (negsuc 99) (pos 100) (pos 10)
    ∷ along (negsuc 99) (pos 100) (pos 11)
    ∷ Strike (pos 0)
    ∷ TakeBack
    ∷ Add (cylinder (negsuc 3))
    ∷ Publish (pos 0) (pos 0) (pos 1)
    ∷ along (negsuc 4095) (pos 4096) (pos 3)
    ∷ []

-- with no area on the leg is clear with 1 bound. With a cylinder of radius 10 it is entered in piece 1023 with 22 bounds, and at y = 11 clear with 19. With one of
-- radius 2, a leg of the whole width at y = 3 is near in piece 1023 with 22 bounds.
abbrev pub worked_answers : List Answer
worked_answers =
    checked (record { answer = 0; piece = negsuc 0; bounds = 1 })
    ∷ taken 0
    ∷ taken 0
    ∷ checked (record { answer = 2; piece = pos 1023; bounds = 22 })
    ∷ checked (record { answer = 0; piece = negsuc 0; bounds = 19 })
    ∷ taken 0
    ∷ taken 0
    ∷ taken 0
    ∷ taken 0
    ∷ checked (record { answer = 3; piece = pos 1023; bounds = 22 })
    ∷ []

pub record WorkedSheet : Type 0 where
  pub answers : answers_to empty_sheet calls_worked ≡ worked_answers
  -- with no area on every leg is clear with 1 bound
  pub none_on : (leg : Leg) → check_of (field_of empty_sheet) leg ≡ Clear 1
