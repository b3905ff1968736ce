-- The numbers that stand in the text of shapes.
use Rattle.std.proofs.Common.{◌≡◌, codes, refl}
use Rattle.std.specs.Prelude.{decimal}
use Rattle.std.specs.Fmt.{digits}

pub zero_is : decimal 0 ≡ codes "0"
unfolding digits
zero_is = refl

pub two_is : decimal 2 ≡ codes "2"
unfolding digits
two_is = refl

pub four_is : decimal 4 ≡ codes "4"
unfolding digits
four_is = refl

pub seven_is : decimal 7 ≡ codes "7"
unfolding digits
seven_is = refl

pub eleven_is : decimal 11 ≡ codes "11"
unfolding digits
eleven_is = refl

pub fifteen_is : decimal 15 ≡ codes "15"
unfolding digits
fifteen_is = refl

pub thirty_is : decimal 30 ≡ codes "30"
unfolding digits
thirty_is = refl
