-- Worked numbers.
use Rattle.std.specs.Prelude.{◌≡◌, ℤ, pos, negsuc}
use Rattle.affine.specs.declared.Form.{Form}
use Rattle.affine.specs.Forms.{product_of, low_end, high_end, lesser_of, greater_of}

abbrev pub form : ℤ → ℤ → ℤ → Form
form a b c = record { u0 = a; u1 = b; u2 = c }

-- (3, 2, 1) times (5, −1, 2) is (15, 7, 20), with ends −12 and 42; the lesser of (10, 2, 0) and (11, 0, 4) is (10, 0, 3), and their greater (12, 0, 4)
abbrev pub WorkedForms : Type 0
WorkedForms =
    (product_of (form (pos 3) (pos 2) (pos 1)) (form (pos 5) (negsuc 0) (pos 2)) ≡ form (pos 15) (pos 7) (pos 20))
    × (low_end (form (pos 15) (pos 7) (pos 20)) ≡ negsuc 11)
    × (high_end (form (pos 15) (pos 7) (pos 20)) ≡ pos 42)
    × (lesser_of (form (pos 10) (pos 2) (pos 0)) (form (pos 11) (pos 0) (pos 4)) ≡ form (pos 10) (pos 0) (pos 3))
    × (greater_of (form (pos 10) (pos 2) (pos 0)) (form (pos 11) (pos 0) (pos 4)) ≡ form (pos 12) (pos 0) (pos 4))
