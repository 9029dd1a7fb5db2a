-- Laws that speak of no function: of the rows of totals, of the way from the last item down.
pub mod Rows
pub mod Walk
