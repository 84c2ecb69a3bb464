-- Whether a start is left to each job, from the first job on.
use Rattle.std.proofs.Common.{◌≡◌, ℕ, zero, suc, ◌+◌, ◌≤◌, Bool, ◌&&◌, nat_lt, List, length, take, get_or, sym, refl, ap, ap₂, ◌∙◌, arith}
use Rattle.std.specs.List.{list_all, enumerate_from}
use Rattle.std.proofs.Math.Bool.{and_comm}
use Rattle.std.proofs.lemmas.List.{get_or_default, take_all}
use Rattle.std.proofs.lemmas.List.Folds.{list_all_more}
use Rattle.std.proofs.lemmas.List.FromFn.{length-enumerate_from, get_or-enumerate_from}
use Rattle.sheet.specs.declared.records.Job.{Job}
use Rattle.sheet.specs.Entries.{job}
use Rattle.rule.specs.Bounds.{all_open}

-- the tests of all jobs by number, from the first on, are those of `all_open`, from the last back
open_taken : (lo end : ℕ → ℕ) (js : List Job) (test : ℕ × Job → Bool) → ((k : ℕ) → test (k, job js k) ≡ nat_lt (lo k) (end k)) → (n : ℕ) → n ≤ length js → list_all test (take n (enumerate_from 0 js)) ≡ all_open lo end n
open_taken lo end js test f zero h = refl
open_taken lo end js test f (suc n) h =
    let more = list_all_more test (enumerate_from 0 js) n (0, job js (length js)) (omega (arith, length-enumerate_from 0 js)) in
    let at : get_or (enumerate_from 0 js) n (0, job js (length js)) ≡ (n, job js n) = get_or-enumerate_from 0 js n _ (omega arith) ∙ ap₂ (λ (k : ℕ) (j : Job). (k, j)) (omega arith) (get_or_default js n _ _ (omega arith)) in
    let one : suc n ≡ n + 1 = omega arith in
    let before : list_all test (take n (enumerate_from 0 js)) ≡ all_open lo end n = open_taken lo end js test f n (omega arith) in
    ap (λ (k : ℕ). list_all test (take k (enumerate_from 0 js))) one ∙ more ∙ ap₂ (λ (a b : Bool). a && b) before (ap test at ∙ f n) ∙ and_comm (all_open lo end n) (nat_lt (lo n) (end n))

pub open_listed : (lo end : ℕ → ℕ) (js : List Job) (test : ℕ × Job → Bool) → ((k : ℕ) → test (k, job js k) ≡ nat_lt (lo k) (end k)) → list_all test (enumerate_from 0 js) ≡ all_open lo end (length js)
open_listed lo end js test f =
    let whole : length (enumerate_from 0 js) ≤ length js = omega (arith, length-enumerate_from 0 js) in
    ap (list_all test) (sym (take_all _ _ whole)) ∙ open_taken lo end js test f (length js) (omega arith)
