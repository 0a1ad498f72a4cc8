-- Texts appended one after another.
use Rattle.std.proofs.Common.{◌≡◌, ℕ, ℤ, List, ◌++◌, ap, ◌∙◌, append_assoc}
use Rattle.drawing.specs.Elements.{level_text, upright_text}

pub joined_three : (x₀ x₁ x₂ x₃ a b c : List ℕ) → x₁ ≡ x₀ ++ a → x₂ ≡ x₁ ++ b → x₃ ≡ x₂ ++ c → x₃ ≡ x₀ ++ (a ++ b ++ c)
joined_three x₀ x₁ x₂ x₃ a b c h₁ h₂ h₃ = rw (h₃, h₂, h₁) (simp append_assoc)

pub joined_two : (x₀ x₁ x₂ a b : List ℕ) → x₁ ≡ x₀ ++ a → x₂ ≡ x₁ ++ b → x₂ ≡ x₀ ++ (a ++ b)
joined_two x₀ x₁ x₂ a b h₁ h₂ = rw (h₂, h₁) (simp append_assoc)

pub joined_four : (x₀ x₁ x₂ x₃ x₄ a b c d : List ℕ) → x₁ ≡ x₀ ++ a → x₂ ≡ x₁ ++ b → x₃ ≡ x₂ ++ c → x₄ ≡ x₃ ++ d → x₄ ≡ x₀ ++ (a ++ b ++ c ++ d)
joined_four x₀ x₁ x₂ x₃ x₄ a b c d h₁ h₂ h₃ h₄ = rw (h₄, h₃, h₂, h₁) (simp append_assoc)

pub joined_five : (x₀ x₁ x₂ x₃ x₄ x₅ a b c d e : List ℕ) → x₁ ≡ x₀ ++ a → x₂ ≡ x₁ ++ b → x₃ ≡ x₂ ++ c → x₄ ≡ x₃ ++ d → x₅ ≡ x₄ ++ e → x₅ ≡ x₀ ++ (a ++ b ++ c ++ d ++ e)
joined_five x₀ x₁ x₂ x₃ x₄ x₅ a b c d e h₁ h₂ h₃ h₄ h₅ = rw (h₅, h₄, h₃, h₂, h₁) (simp append_assoc)

pub joined_six : (x₀ x₁ x₂ x₃ x₄ x₅ x₆ a b c d e f : List ℕ) → x₁ ≡ x₀ ++ a → x₂ ≡ x₁ ++ b → x₃ ≡ x₂ ++ c → x₄ ≡ x₃ ++ d → x₅ ≡ x₄ ++ e → x₆ ≡ x₅ ++ f → x₆ ≡ x₀ ++ (a ++ b ++ c ++ d ++ e ++ f)
joined_six x₀ x₁ x₂ x₃ x₄ x₅ x₆ a b c d e f h₁ h₂ h₃ h₄ h₅ h₆ = rw (h₆, h₅, h₄, h₃, h₂, h₁) (simp append_assoc)

-- the same label, of numbers that are the same
pub upright_at : (x₀ x₁ : List ℕ) (p q m n : ℤ) → x₁ ≡ x₀ ++ upright_text p m → p ≡ q → m ≡ n → x₁ ≡ x₀ ++ upright_text q n
upright_at x₀ x₁ p q m n is place value =
    is ∙ ap (λ (z : ℤ). x₀ ++ upright_text z m) place ∙ ap (λ (z : ℤ). x₀ ++ upright_text q z) value

pub level_at : (x₀ x₁ : List ℕ) (p q m n : ℤ) → x₁ ≡ x₀ ++ level_text p m → p ≡ q → m ≡ n → x₁ ≡ x₀ ++ level_text q n
level_at x₀ x₁ p q m n is place value =
    is ∙ ap (λ (z : ℤ). x₀ ++ level_text z m) place ∙ ap (λ (z : ℤ). x₀ ++ level_text q z) value
