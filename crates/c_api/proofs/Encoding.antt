-- One start more as bytes.
use Rattle.std.proofs.Common.{◌≡◌, ℕ, ◌+◌, ◌/◌, ◌%◌, ◌<◌, List, [], ◌∷◌, ◌++◌, length, get_or, take, sym, ap, ◌∙◌}
use Rattle.std.proofs.lemmas.List.{flat_map_more, take_more}
use Rattle.c_api.specs.Buffers.{encoded}

pub encoded_more : (ss : List ℕ) (i : ℕ) → i < length ss → encoded (take i ss) ++ ((get_or ss i 0 % 256) ∷ ((get_or ss i 0 / 256) ∷ [])) ≡ encoded (take (i + 1) ss)
encoded_more ss i h =
    flat_map_more (λ s. (s % 256) ∷ ((s / 256) ∷ [])) [] (take i ss) (get_or ss i 0) ∙ ap encoded (sym (take_more ss i 0 h))
