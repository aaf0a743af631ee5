-- What the totals of the accepted rows ask and are.
pub mod Totals
